-- The first of some values that passes a test, and of what these values are seen as.
use Rattle.std.proofs.Common.{◌≡◌, refl, option_map, Bool, true, false, cond, List, [], ◌∷◌, map, Some}
use Rattle.std.specs.List.{find}

-- the first that passes, seen, is the first that passes of those seen
pub find_seen : {X Y : Type 0} (seen : X → Y) (test : Y → Bool) (xs : List X) → option_map seen (find (λ x. test (seen x)) xs) ≡ find test (map seen xs)
find_seen seen test [] = refl
find_seen seen test (x ∷ xs) = by (test (seen x)) (find_seen seen test xs) where
  by : (passes : Bool) → option_map seen (find (λ x. test (seen x)) xs) ≡ find test (map seen xs)
      → option_map seen (cond passes (Some x) (find (λ x. test (seen x)) xs)) ≡ cond passes (Some (seen x)) (find test (map seen xs))
  by true later = refl
  by false later = later
