-- Sums over lists, and who stands in a list: whoever weighs something in it.
use Rattle.std.proofs.Common.{◌≡◌, ℕ, ◌+◌, ◌*◌, ◌<◌, cond, nat_eq, List, [], ◌∷◌, All, length, map, sum_by, inl, inr, refl, ap, subst, arith}
use Rattle.std.proofs.lemmas.Bool.{cases_Bool, eqb-true, eq-eqb}
use Rattle.std.proofs.lemmas.List.Elements.{All-nil, All-cons, All-head, All-tail}
use Rattle.std.proofs.lemmas.List.Sums.{sum_by-cons}
use Rattle.std.proofs.Math.Nat.{mul-add}
use Rattle.dual.specs.Prelude.{in_both}

pub sum_plus : {X : Type 0} (f g : X → ℕ) (xs : List X) → sum_by (λ x. f x + g x) xs ≡ sum_by f xs + sum_by g xs
sum_plus f g [] = refl
sum_plus f g (x ∷ xs) = omega (arith, sum_by-cons (λ x. f x + g x) x xs, sum_by-cons f x xs, sum_by-cons g x xs, sum_plus f g xs)

pub sum_none : {X : Type 0} (xs : List X) → sum_by (λ x. 0) xs ≡ 0
sum_none [] = refl
sum_none (x ∷ xs) = omega (arith, sum_by-cons (λ x. 0) x xs, sum_none xs)

pub sum_times : {X : Type 0} (n : ℕ) (f : X → ℕ) (xs : List X) → sum_by (λ x. n * f x) xs ≡ n * sum_by f xs
sum_times n f [] = omega arith
sum_times n f (x ∷ xs) = omega (arith, sum_by-cons (λ x. n * f x) x xs, ap (λ s. n * s) (sum_by-cons f x xs), mul-add n (f x) (sum_by f xs), sum_times n f xs)

pub sum_of_ones : {X : Type 0} (xs : List X) → sum_by (λ x. 1) xs ≡ length xs
sum_of_ones [] = refl
sum_of_ones (x ∷ xs) = omega (arith, sum_by-cons (λ x. 1) x xs, sum_of_ones xs)

pub sum_map : {X Y : Type 0} (f : Y → ℕ) (g : X → Y) (xs : List X) → sum_by f (map g xs) ≡ sum_by (λ x. f (g x)) xs
sum_map f g [] = refl
sum_map f g (x ∷ xs) = omega (arith, sum_by-cons f (g x) (map g xs), sum_by-cons (λ x. f (g x)) x xs, sum_map f g xs)

-- ---- who stands in a list

abbrev pub one : ℕ → ℕ → ℕ
one x y = cond (nat_eq y x) 1 0

pub one_itself : (x : ℕ) → one x x ≡ 1
one_itself x = ap (λ b. cond b 1 0) (eq-eqb x x refl)

-- what holds of all holds of whoever stands in the list
pub of_member : (P : ℕ → Type 0) (x : ℕ) (xs : List ℕ) → All P xs → 0 < sum_by (one x) xs → P x
of_member P x [] all h = absurd (omega arith)
of_member P x (y ∷ ys) all h = elim (cases_Bool (nat_eq y x)) [
  | inl here ↦ subst P (eqb-true y x here) (All-head P y ys all)
  | inr other ↦
      let off : one x y ≡ 0 = ap (λ b. cond b 1 0) other in
      of_member P x ys (All-tail P y ys all) (omega (arith, h, off, sum_by-cons (one x) y ys))
]

-- and the other way round
pub of_members : (P : ℕ → Type 0) (xs : List ℕ) → ((x : ℕ) → 0 < sum_by (one x) xs → P x) → All P xs
of_members P [] each = All-nil P
of_members P (x ∷ xs) each =
    All-cons P x xs (each x (omega (arith, one_itself x, sum_by-cons (one x) x xs))) (of_members P xs (λ y some. each y (omega (arith, some, sum_by-cons (one y) x xs))))

-- ---- the players of some pairs

pub sum_of_twos : (pairs : List (ℕ × ℕ)) → sum_by (in_both (λ v. 1)) pairs ≡ 2 * length pairs
sum_of_twos [] = refl
sum_of_twos (pair ∷ pairs) = omega (arith, sum_by-cons (in_both (λ v. 1)) pair pairs, sum_of_twos pairs)

abbrev pub named : List (ℕ × ℕ) → List ℕ
named [] = []
named (pair ∷ pairs) = pair.0 ∷ pair.1 ∷ named pairs

pub sum_named : (w : ℕ → ℕ) (pairs : List (ℕ × ℕ)) → sum_by w (named pairs) ≡ sum_by (in_both w) pairs
sum_named w [] = refl
sum_named w (pair ∷ pairs) =
    omega (
      arith,
      sum_by-cons w pair.0 (pair.1 ∷ named pairs),
      sum_by-cons w pair.1 (named pairs),
      sum_by-cons (in_both w) pair pairs,
      sum_named w pairs,
    )
