-- There is room for the lower seats behind those of the numbers.
use Rattle.std.proofs.Common.{◌++◌, map, ap, ◌∙◌, length, arith}
use Rattle.std.proofs.lemmas.List.{length-map}
use Rattle.dutch_bracket.specs.Prelude.{seat_of}
use Rattle.dutch_completion.proofs.eligible.fill_with_lower.Goals as goal

pub push_all-requires : goal.push_all-requires
push_all-requires c =
    let seats = c.push_seats.ensures ∙ ap (λ none. none ++ map (seat_of c.seats.result.now) c.args.numbers.now) c.clear.ensures in
    omega (arith, c.requires, ap length seats, length-map c.args.numbers.now (seat_of c.seats.result.now))
