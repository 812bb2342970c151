-- How many more miss, by how many of the bracket and of the pairs want each colour.
use Rattle.std.proofs.Common.{◌∙◌, ℕ, ap, arith, length}
use Rattle.std.proofs.lemmas.List.{length-map}
use Rattle.dutch_arrangements.specs.declared.bracket.Shape.{Shape}
use Rattle.dutch_bracket.specs.Prelude.{seat_of}
use Rattle.dutch_floors.specs.Behind.{Basis}
use Rattle.dutch_floors.specs.KnownPairs.{by_seat}
use Rattle.dutch_floors.proofs.FloorLemmas.{more_is}
use Rattle.dutch_floors.proofs.floor.Floors.more_missed.Goals as goal

pub returns-clause-value : goal.returns-clause-value
returns-clause-value c =
    let basis = c.args.self.now in
    let pairs = by_seat basis.reached.seats c.args.known.now.pairs.items in
    let made = c.wants-2.ensures basis.facts pairs c.requires.known in
    let at : ℕ × ℕ → ℕ × ℕ = λ pair. (seat_of basis.reached.seats pair.0, seat_of basis.reached.seats pair.1) in
    c.more_missed.ensures
    ∙ more_is c.args.firm basis.facts basis.reached basis.shape pairs c.wants.result c.wants-2.result c.colour_places-places.result c.wants.ensures.counted c.wants.ensures.firm made.0 made.1
    (omega (
      arith,
      c.colour_places-places.ensures,
      c.len.ensures.value,
      ap (λ (shape : Shape). shape.pairs) c.shape.ensures.value,
      ap (λ (b : Basis). length b.reached.seats) c.self.view_is,
      length-map c.args.known.now.pairs.items at,
    ))
