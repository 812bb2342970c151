-- What the next bracket can be at best, as counts tell it, where the Limbo is that of the first S1 (C.04.3 C.7).
use Rattle.std.specs.Prelude.{ℕ, ◌+◌, ◌-◌, ◌*◌, nat_lt, if◌then◌else◌, List, [], map, length, slice_index}
use Rattle.dutch_arrangements.specs.declared.bracket.Shape.{Shape}
use Rattle.dutch_arrangements.specs.Prelude.{numbers_from}
use Rattle.dutch_player.specs.Prelude.{Facts}
use Rattle.dutch_bracket.specs.Prelude.{NextValue, Reached, seat_of, score_at, scores_down, floor_below, pairs_by_counts}
use Rattle.dutch_sequence.specs.declared.numbers.TheConstants.{LIMIT}

-- the scores of the moved-down players whom the first S1 of a shape leaves over
abbrev pub first_limbo : Facts → Reached → Shape → List ℕ
first_limbo facts reached shape = map (λ i. score_at facts (seat_of reached.seats i)) (numbers_from (shape.mdps + 1) (reached.mdps - shape.mdps))

-- their scores, and those of the residents who go down
abbrev pub first_scores_down : Facts → Reached → Shape → List ℕ
first_scores_down facts reached shape = scores_down facts reached shape (first_limbo facts reached shape)

-- how many differences the floor of the next bracket's PSD has
abbrev pub floor_length : ℕ → ℕ → ℕ → ℕ
floor_length down residents pairs = down + ((pairs - down) + ((down + residents) - 2 * pairs))

-- that floor, if a bracket can have so many differences; otherwise nothing is known of the PSD
abbrev pub floor_held : List ℕ → ℕ → ℕ → ℕ → List ℕ
floor_held down s residents pairs =
    if nat_lt LIMIT (floor_length (length down) residents pairs) then [] else floor_below down s residents pairs

-- the floor of the next bracket's PSD below those who go down with the first S1 of a shape, if it has so many pairs
abbrev pub first_floor : Facts → Reached → Shape → List ℕ → ℕ → List ℕ
first_floor facts reached shape next pairs = floor_held (first_scores_down facts reached shape) (score_at facts (slice_index next 0)) (length next) pairs

-- C.7: what no value of the next bracket is better than, if an arrangement of a shape leaves the Limbo of the first S1
abbrev pub first_value : Facts → Reached → Shape → List ℕ → NextValue
first_value facts reached shape next =
    record { pairs = pairs_by_counts reached shape next; psd = first_floor facts reached shape next (pairs_by_counts reached shape next) }
