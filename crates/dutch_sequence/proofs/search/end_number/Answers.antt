use Rattle.std.proofs.Common.{arith, rules}
use Rattle.dutch_sequence.proofs.Moves.{spent-place, spent-whole}
use Rattle.dutch_sequence.proofs.search.end_number.Goals as goal

pub returns-then-path-places : goal.returns-then-path-places
returns-then-path-places g c =
    spent-place (g.T.Tree.plan c.args.tree.now) c.args.path.now c.stop.result (search rules) (search rules)

pub returns-else-path-places : goal.returns-else-path-places
returns-else-path-places g c =
    spent-whole (g.T.Tree.plan c.args.tree.now) c.args.path.now 1 (search rules) (omega arith)
