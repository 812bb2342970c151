-- What pairs of residents cost where the order of S1R is counted (C.04.3 D.2): all pairs of a candidate cost no more than they weigh, and what
-- the members of its S1R add.
use Rattle.std.proofs.Common.{◌≡◌, ℕ, ◌+◌, ◌^◌, ◌<◌, ◌≤◌, Bool, true, false, cond, nat_lt, ◌&&◌, List, [], ◌∷◌, sum_by, refl, ap, arith}
use Rattle.std.specs.List.{AllByRecursion, zip}
use Rattle.std.proofs.lemmas.Bool.{false_from_ne_true, ltb-true}
use Rattle.std.proofs.lemmas.List.Sums.{sum_by-append, sum_by-cons}
use Rattle.dutch_arrangements.specs.Prelude.{Arrangement, Beginning}
use Rattle.dutch_weight_floors.specs.Prelude.{Order, added_for, with_lesser, with_order, IsMostAdded}
use Rattle.dutch_weight_floors.specs.Orders.{lesser}
use Rattle.dutch_bracket.specs.Prelude.{number_pairs}
use Rattle.dutch_weight_floors.proofs.OrderLemmas.{with_first}

module _ (mdps : ℕ) (order : Order) (w : ℕ → ℕ → ℕ) where
  abbrev plain : ℕ × ℕ → ℕ
  plain pair = w pair.0 pair.1

  abbrev ordered : ℕ × ℕ → ℕ
  ordered pair = with_order mdps order pair.0 pair.1 (w pair.0 pair.1)

  -- a pair costs no more than it weighs and what its first player adds
  at_first : (t : Bool) (a b n : ℕ) → cond t (with_lesser order n a b) n ≤ n + added_for order a
  at_first true a b n = with_first order n a b
  at_first false a b n = omega arith

  -- the pair of a moved-down player costs what it weighs
  moved_down_alone : (x y n : ℕ) → x ≤ mdps → with_order mdps order x y n ≡ n
  moved_down_alone x y n low =
      let none : nat_lt mdps x ≡ false = false_from_ne_true (nat_lt mdps x) (λ above. let h : mdps < x = ltb-true mdps x above in omega (arith, h, low)) in
      ap (λ t. cond (t && nat_lt mdps y) (with_lesser order n x y) n) none

  moved_down : (xs ys : List ℕ) → AllByRecursion (λ x. x ≤ mdps) xs → sum_by ordered (zip xs ys) ≡ sum_by plain (zip xs ys)
  moved_down [] ys low = refl
  moved_down (x ∷ xs) [] low = refl
  moved_down (x ∷ xs) (y ∷ ys) low =
      omega (
        arith,
        sum_by-cons ordered (x, y) (zip xs ys),
        sum_by-cons plain (x, y) (zip xs ys),
        moved_down_alone x y (w x y) low.0,
        moved_down xs ys low.1,
      )

  residents : (xs ys : List ℕ) → sum_by ordered (zip xs ys) ≤ sum_by plain (zip xs ys) + sum_by (added_for order) xs
  residents [] ys = omega arith
  residents (x ∷ xs) [] = omega arith
  residents (x ∷ xs) (y ∷ ys) =
      omega (
        arith,
        sum_by-cons ordered (x, y) (zip xs ys),
        sum_by-cons plain (x, y) (zip xs ys),
        sum_by-cons (added_for order) x xs,
        at_first (nat_lt mdps x && nat_lt mdps y) x y (w x y),
        residents xs ys,
      )

  -- D.2: the pairs of an arrangement
  pub pairs_cost : (a : Arrangement) → AllByRecursion (λ x. x ≤ mdps) a.s1
      → sum_by ordered (number_pairs a) ≤ sum_by plain (number_pairs a) + sum_by (added_for order) a.s1r
  pairs_cost a low =
      omega (
        arith,
        sum_by-append ordered (zip a.s1 a.s2) (zip a.s1r a.s2r),
        sum_by-append plain (zip a.s1 a.s2) (zip a.s1r a.s2r),
        moved_down a.s1 a.s2 low,
        residents a.s1r a.s2r,
      )

-- where nobody adds anything, no S1R does
none_added : (order : Order) → ((x : ℕ) → added_for order x ≡ 0) → (xs : List ℕ) → sum_by (added_for order) xs ≡ 0
none_added order none [] = refl
none_added order none (x ∷ xs) = omega (arith, sum_by-cons (added_for order) x xs, none x, none_added order none xs)

pub nothing_added : (order : Order) (b : Beginning) → ((x : ℕ) → added_for order x ≡ 0) → IsMostAdded order b 0
nothing_added order b none = λ a begins. omega (arith, none_added order none a.s1r)

with_nothing : (t : Bool) (w x : ℕ) → x ≡ 0 → w ≡ cond t (w + x) w
with_nothing true w x e = omega (arith, e)
with_nothing false w x e = refl

-- a weight with what two players add of whom nobody adds anything
pub nothing_with : (order : Order) (w a b : ℕ) → ((x : ℕ) → added_for order x ≡ 0) → w ≡ with_lesser order w a b
nothing_with order w a b none = with_nothing (nat_lt (w + lesser order a b) (2 ^ 1024)) w (lesser order a b) (omega (arith, none a, none b))
