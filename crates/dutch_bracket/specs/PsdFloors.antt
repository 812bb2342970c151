-- The PSD that the arrangements with a beginning have, or do not go below (C.04.3 C.6).
use Rattle.std.specs.Prelude.{◌≡◌, ℕ, zero, suc, ◌+◌, ◌-◌, ◌*◌, ◌<◌, ◌≤◌, ◌⊎◌, List, [], ◌∷◌, ◌++◌, map, length, Bool, ◌||◌, ◌==◌}
use Rattle.dutch_arrangements.specs.declared.bracket.Shape.{Shape}
use Rattle.dutch_arrangements.specs.Prelude.{numbers_from, left_of, remainder_pairs}
use Rattle.dutch_player.specs.Prelude.{Facts}
use Rattle.dutch_bracket.specs.Quality.{highest_first}
use Rattle.dutch_bracket.specs.Reached.{Reached}
use Rattle.dutch_bracket.specs.Seated.{seat_of, score_at}
use Rattle.dutch_bracket.specs.ColourFloors.{residents_down}

-- a number so many times [with psd]
abbrev pub repeated : ℕ → ℕ → List ℕ
repeated x zero = []
repeated x (suc n) = x ∷ repeated x n

-- the PSD of an arrangement of a bracket whose residents have the score s, by its S1: the differences of those in S1, of the moved-down
-- players who are not in it, of the pairs of residents, and of the residents who are left over [C.6; own]
unfoldable pub psd_with : Facts → Reached → Shape → ℕ → List ℕ → List ℕ
psd_with facts reached shape s s1 =
    highest_first (map (λ i. score_at facts (seat_of reached.seats i) - s) s1
    ++ (map (λ i. (score_at facts (seat_of reached.seats i) - s) + 2) (left_of (numbers_from 1 reached.mdps) s1)
    ++ (repeated 0 (remainder_pairs shape) ++ repeated 2 (residents_down reached shape))))

-- all S1 leave moved-down players with the same scores: none is in it, or all are, or all have one score
abbrev pub IsUniform : Facts → Reached → Shape → Type 0
IsUniform facts reached shape =
    (shape.mdps ≡ 0) ⊎ ((shape.mdps ≡ reached.mdps) ⊎ ((i : ℕ) → 0 < i → i ≤ reached.mdps → score_at facts (seat_of reached.seats i) ≡ score_at facts (seat_of reached.seats 1)))

-- what no arrangement of so many pairs goes below, in a bracket whose residents have the score s: all moved-down players paired, the
-- other pairs even, and the others left over
abbrev pub floor_psd : Facts → Reached → ℕ → ℕ → List ℕ
floor_psd facts reached s pairs =
    highest_first (map (λ i. score_at facts (seat_of reached.seats i) - s) (numbers_from 1 reached.mdps)
    ++ (repeated 0 (pairs - reached.mdps) ++ repeated 2 (length reached.seats - 2 * pairs)))

-- all S1 leave moved-down players with the same scores [with psd_with]
abbrev pub is_uniform : Facts → Reached → Shape → Bool
is_uniform facts reached shape =
    (shape.mdps == 0) || ((shape.mdps == reached.mdps) || (score_at facts (seat_of reached.seats 1) == score_at facts (seat_of reached.seats reached.mdps)))
