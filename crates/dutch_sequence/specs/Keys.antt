-- The order of choices (C.04.3 D): two choices are compared by one key after another, and the first key in which they differ decides.
use Rattle.std.specs.Prelude.{◌≡◌, ℕ, List, [], ◌∷◌, ◌⊎◌, cond}
use Rattle.std.specs.declared.cmp.Ordering.{Ordering}
use Rattle.std.specs.declared.cmp.Ordering.TheVariants.{Less}
use Rattle.std.specs.Ordering.{nat_cmp, flip_args, is_lt}
use Rattle.std.specs.Cmp.Lexicographic.{slice_cmp}
use Rattle.std.specs.List.{AllByRecursion}

-- of two lists the one with the lower number at the first difference goes first, or the one that has ended there [D]
abbrev pub lower_first : List ℕ → List ℕ → Ordering
lower_first = slice_cmp nat_cmp

-- of two lists the one with the higher number at the first difference goes first, or the one that has ended there [with lower_first]
abbrev pub higher_first : List ℕ → List ℕ → Ordering
higher_first = slice_cmp (flip_args nat_cmp)

module _ (order : List ℕ → List ℕ → Ordering) where
  -- a choice put before the first one that does not go before it
  abbrev pub put : List ℕ → List (List ℕ) → List (List ℕ)
  put choice [] = choice ∷ []
  put choice (other ∷ others) = cond (is_lt (order other choice)) (other ∷ put choice others) (choice ∷ other ∷ others)

  -- choices sorted by an order
  abbrev pub sorted : List (List ℕ) → List (List ℕ)
  sorted [] = []
  sorted (choice ∷ others) = put choice (sorted others)

-- something is a member of a list [with subsets]
abbrev pub IsIn : {X : Type 0} → X → List X → Type 0
IsIn x [] = ⊥
IsIn x (y ∷ ys) = (x ≡ y) ⊎ IsIn x ys

-- no member of a list comes twice [with subsets]
abbrev pub HasEachOnce : {X : Type 0} → List X → Type 0
HasEachOnce [] = Unit {0}
HasEachOnce (x ∷ xs) = (¬ IsIn x xs) × HasEachOnce xs

-- choices ascend in an order: each goes before all later ones [with lower_first]
abbrev pub Ascends : (List ℕ → List ℕ → Ordering) → List (List ℕ) → Type 0
Ascends order [] = Unit {0}
Ascends order (choice ∷ others) = AllByRecursion (λ other. order choice other ≡ Less) others × Ascends order others
