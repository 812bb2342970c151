-- The plain lists of choices, in no order that matters: sets (C.04.3 D.2, D.3) and tuples (D.1) of the members of a list.
use Rattle.std.specs.Prelude.{◌≡◌, ℕ, zero, suc, Bool, true, false, not, eqb, ◌&&◌, List, [], ◌∷◌, ◌++◌, map, filter, flat_map, if◌then◌else◌}
use Rattle.std.specs.List.{list_any}

-- so many numbers from a first one on [with subsets]
abbrev pub numbers_from : ℕ → ℕ → List ℕ
numbers_from first zero = []
numbers_from first (suc count) = first ∷ numbers_from (suc first) count

-- all lists of k members of a list, each list in the order in which its members stand there [D.2, D.3]
abbrev pub subsets : List ℕ → ℕ → List (List ℕ)
subsets numbers zero = [] ∷ []
subsets [] (suc k) = []
subsets (x ∷ numbers) (suc k) = map (λ set. x ∷ set) (subsets numbers k) ++ subsets numbers (suc k)

-- a number is in a list
abbrev pub is_member : ℕ → List ℕ → Bool
is_member x numbers = list_any (λ y. eqb y x) numbers

-- a list without a number
abbrev pub without : ℕ → List ℕ → List ℕ
without x numbers = filter (λ y. not (eqb y x)) numbers

-- a list without the members of another [with subsets]
abbrev pub left_of : List ℕ → List ℕ → List ℕ
left_of numbers taken = filter (λ x. not (is_member x taken)) numbers

-- all lists of k distinct members of a list of distinct numbers, in every order [D.1]
abbrev pub tuples : List ℕ → ℕ → List (List ℕ)
tuples numbers zero = [] ∷ []
tuples numbers (suc k) = flat_map (λ x. map (λ tuple. x ∷ tuple) (tuples (without x numbers) k)) numbers

-- the players of two lists may meet, place by place [C.1, C.3]
abbrev pub all_meet : (ℕ → ℕ → Bool) → List ℕ → List ℕ → Bool
all_meet meets [] seconds = true
all_meet meets (first ∷ firsts) [] = true
all_meet meets (first ∷ firsts) (second ∷ seconds) = meets first second && all_meet meets firsts seconds

-- two choices are the same [with subsets]
abbrev pub is_same : List ℕ → List ℕ → Bool
is_same [] [] = true
is_same [] (y ∷ ys) = false
is_same (x ∷ xs) [] = false
is_same (x ∷ xs) (y ∷ ys) = eqb x y && is_same xs ys

-- the choices from a given one on [with subsets]
abbrev pub from_on : List ℕ → List (List ℕ) → List (List ℕ)
from_on choice [] = []
from_on choice (other ∷ others) = if is_same other choice then other ∷ others else from_on choice others

-- blocks, one after another
abbrev pub joined : {X : Type 0} → List (List X) → List X
joined [] = []
joined (block ∷ blocks) = block ++ joined blocks

-- a list begins with another [own]
pub record GoesOn (front list : List ℕ) : Type 0 where
  pub rest : List ℕ
  pub is : list ≡ front ++ rest
