-- Of no pairs nothing is to be known.
use Rattle.std.proofs.Common.{◌∙◌, ap, filter, length}
use Rattle.dutch_bracket.specs.Prelude.{is_uneven}
use Rattle.dutch_floors.specs.KnownPairs.{by_seat}
use Rattle.dutch_floors.proofs.floor.Floors.fill_target.Goals as goal

pub fill_counted-requires-clause-uneven : goal.fill_counted-requires-clause-uneven
fill_counted-requires-clause-uneven c =
    let basis = c.args.self.now in
    c.sums_with-sums.ensures.uneven ∙ ap (λ ps. length (filter (is_uneven basis.facts) (by_seat basis.reached.seats ps))) c.clear.ensures.pairs
