use Rattle.std.proofs.Common.{arith}
use Rattle.dutch_sequence.proofs.search.HintedTree.start.Goals as goal

pub deref-requires : goal.deref-requires
deref-requires g c = omega (arith, g.met.T.Tree.small c.args.self.now.tree)
