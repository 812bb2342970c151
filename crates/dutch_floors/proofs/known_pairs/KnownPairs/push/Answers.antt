-- The sums are small, as there is room for one pair more.
use Rattle.std.proofs.Common.{arith}
use Rattle.dutch_floors.proofs.SumLemmas.{few_known}
use Rattle.dutch_floors.proofs.known_pairs.KnownPairs.push.Goals as goal

pub plus-self-requires-clause-few : goal.plus-self-requires-clause-few
plus-self-requires-clause-few c =
    few_known c.args.context.now.facts c.args.context.now.reached.seats c.args.self.now.pairs.items c.args.self.now.sums c.requires.known (omega (arith, c.requires.room))
