-- The sums are small.
use Rattle.std.proofs.Common.{arith}
use Rattle.dutch_floors.proofs.SumLemmas.{few_known}
use Rattle.dutch_floors.proofs.floor.Floors.sums_with.Goals as goal

pub overflow_add-sums : goal.overflow_add-sums
overflow_add-sums c =
    let few = few_known c.args.self.now.facts c.args.self.now.reached.seats c.args.known.now.pairs.items c.args.known.now.sums c.requires.known c.more_missed-more_strong.ensures.room in
    omega (arith, few.missed, c.requires.more)

pub overflow_add-sums-2 : goal.overflow_add-sums-2
overflow_add-sums-2 c =
    let few = few_known c.args.self.now.facts c.args.self.now.reached.seats c.args.known.now.pairs.items c.args.known.now.sums c.requires.known c.more_missed-more_strong.ensures.room in
    omega (arith, few.strong, c.more_missed-more_strong.ensures.few)
