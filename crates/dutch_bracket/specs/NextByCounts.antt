-- What the next bracket can be at best, whoever may meet in it (C.04.3 C.7): as many pairs as there are players for, and no PSD below a floor
-- that stands on their scores alone.
use Rattle.std.specs.Prelude.{◌≡◌, ℕ, ◌+◌, ◌-◌, ◌*◌, ◌/◌, ◌⊎◌, ◌<◌, false, List, ◌++◌, map, length}
use Rattle.dutch_arrangements.specs.declared.bracket.Shape.{Shape}
use Rattle.dutch_player.specs.Prelude.{Facts}
use Rattle.dutch_bracket.specs.NextBracket.{is_lower}
use Rattle.dutch_bracket.specs.Quality.{NextValue, highest_first}
use Rattle.dutch_bracket.specs.Reached.{Reached}
use Rattle.dutch_bracket.specs.Seated.{seat_of, score_at}
use Rattle.dutch_bracket.specs.ColourFloors.{residents_down}
use Rattle.dutch_bracket.specs.PsdFloors.{repeated}

-- C.7: a value has fewer pairs, or as many and a PSD that is not lower
abbrev pub IsNotBetter : NextValue → ℕ → List ℕ → Type 0
IsNotBetter value pairs psd = (value.pairs < pairs) ⊎ ((value.pairs ≡ pairs) × (is_lower value.psd psd ≡ false))

-- the scores of those who go down with a shape: those of a Limbo, and the residents' score for each resident who does
abbrev pub scores_down : Facts → Reached → Shape → List ℕ → List ℕ
scores_down facts reached shape limbo =
    limbo ++ repeated (score_at facts (seat_of reached.seats (reached.mdps + 1))) (residents_down reached shape)

-- the floor of the next bracket's PSD: above the score s, with so many pairs, in which are all who go down with these scores
abbrev pub floor_below : List ℕ → ℕ → ℕ → ℕ → List ℕ
floor_below down s residents pairs =
    highest_first (map (λ x. x - s) down ++ (repeated 0 (pairs - length down) ++ repeated 2 ((length down + residents) - 2 * pairs)))

-- C.7 by counts: half of those who go down and of the next lower scoregroup
abbrev pub pairs_by_counts : Reached → Shape → List ℕ → ℕ
pairs_by_counts reached shape next = ((length reached.seats - 2 * shape.pairs) + length next) / 2
