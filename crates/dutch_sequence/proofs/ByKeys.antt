-- The orders of choices by keys, in the form in which the searches are proved: a key is one list of numbers, and a choice stands before
-- another if its key has the lower number at the first difference. `Comparing` shows that these are the orders of the definitions.
use Rattle.std.specs.Prelude.{◌≡◌, ℕ, ◌-◌, Bool, true, false, ◌&&◌, ◌||◌, eqb, ltb, List, [], ◌∷◌, ◌++◌, map, length, reverse}
use Rattle.std.specs.List.{AllByRecursion}
use Rattle.dutch_sequence.specs.Prelude.{moved_in, moved_out, sum_of, score_of}

-- whether a key is before another: at the first difference its number is lower, or it has ended
abbrev pub is_before : List ℕ → List ℕ → Bool
is_before [] [] = false
is_before [] (y ∷ ys) = true
is_before (x ∷ xs) [] = false
is_before (x ∷ xs) (y ∷ ys) = ltb x y || (eqb x y && is_before xs ys)

-- choices ascend by a key: the key of each is before the keys of all later ones
abbrev pub Ascends : (List ℕ → List ℕ) → List (List ℕ) → Type 0
Ascends key [] = Unit {0}
Ascends key (choice ∷ others) =
    AllByRecursion (λ other. is_before (key choice) (key other) ≡ true) others × Ascends key others

-- a number as it counts in a key where the higher one is first: by how much a bound, which no number exceeds, is above it
abbrev pub turned_in : ℕ → ℕ → ℕ
turned_in bound number = bound - number

abbrev pub turned : ℕ → ℕ
turned = turned_in 65535

-- the key of a set of a pool: how many it moved out, the difference of the sums, those moved out and those moved in
abbrev pub exchange_key : List ℕ → ℕ → List ℕ → List ℕ
exchange_key pool k set =
    length (moved_out pool k set) ∷ (sum_of (moved_in pool k set) - sum_of (moved_out pool k set))
    ∷ (map (turned_in (sum_of pool)) (reverse (moved_out pool k set)) ++ moved_in pool k set)

-- the key of a set of moved-down players: its scores, and then its numbers
abbrev pub limbo_key_in : ℕ → List ℕ → List ℕ → List ℕ
limbo_key_in bound scores set = map (λ number. turned_in bound (score_of scores number)) set ++ set

abbrev pub limbo_key : List ℕ → List ℕ → List ℕ
limbo_key = limbo_key_in 65535
