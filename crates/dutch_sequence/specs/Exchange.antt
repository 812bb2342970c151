-- Exchanges (C.04.3 D.2): sets of a bracket's numbers by what was moved out of the original set and what was moved in.
use Rattle.std.specs.Prelude.{ℕ, ◌+◌, ◌-◌, not, List, [], ◌∷◌, filter, reverse, take, length}
use Rattle.std.specs.declared.cmp.Ordering.{Ordering}
use Rattle.std.specs.Ordering.{nat_cmp, on, then_cmp}
use Rattle.dutch_sequence.specs.Choices.{subsets, is_member}
use Rattle.dutch_sequence.specs.Keys.{sorted, lower_first, higher_first}

-- the sum of a list [with exchange_cmp]
abbrev pub sum_of : List ℕ → ℕ
sum_of [] = 0
sum_of (x ∷ xs) = x + sum_of xs

-- what an exchange moves out of the original set, which is the first k of the pool, the lowest first [with exchange_cmp]
abbrev pub moved_out : List ℕ → ℕ → List ℕ → List ℕ
moved_out pool k set = filter (λ x. not (is_member x set)) (take k pool)

-- what an exchange moves in, the lowest first [with exchange_cmp]
abbrev pub moved_in : List ℕ → ℕ → List ℕ → List ℕ
moved_in pool k set = filter (λ x. not (is_member x (take k pool))) set

-- how many numbers an exchange moves [with exchange_cmp]
abbrev pub moved_count : List ℕ → ℕ → List ℕ → ℕ
moved_count pool k set = length (moved_out pool k set)

-- by how much the sum of those moved in is over the sum of those moved out, which is never below 0 since the pool ascends [with
-- exchange_cmp]
abbrev pub sum_difference : List ℕ → ℕ → List ℕ → ℕ
sum_difference pool k set = sum_of (moved_in pool k set) - sum_of (moved_out pool k set)

-- D.2: what a set has moved out, highest first
abbrev pub highest_out : List ℕ → ℕ → List ℕ → List ℕ
highest_out pool k set = reverse (moved_out pool k set)

-- the exchange that moves fewer goes first; then the one with the smaller difference; then the one that has the higher number at the first
-- difference among those moved out, from the highest on; then the one that has the lower number at the first difference among those moved
-- in, from the lowest on [D.2]
unfoldable pub exchange_cmp : List ℕ → ℕ → List ℕ → List ℕ → Ordering
exchange_cmp pool k =
    then_cmp (on (moved_count pool k) nat_cmp)
    (then_cmp (on (sum_difference pool k) nat_cmp)
    (then_cmp (on (highest_out pool k) higher_first) (on (moved_in pool k) lower_first)))

-- all sets of k numbers of the pool in this order [with exchange_cmp]
abbrev pub exchanges : List ℕ → ℕ → List (List ℕ)
exchanges pool k = sorted (exchange_cmp pool k) (subsets pool k)
