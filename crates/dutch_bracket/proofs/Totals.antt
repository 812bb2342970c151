-- Lists of numbers by what any weight of their members comes to: two lists of the same numbers, in any order, weigh the same.
use Rattle.std.proofs.Common.{◌≡◌, ℕ, ◌+◌, ◌<◌, nat_eq, cond, List, [], ◌∷◌, ◌++◌, map, length, inl, inr, refl, sym, subst, sum_by, ap, ◌∙◌, arith}
use Rattle.std.specs.Prelude.{IsPermutation}
use Rattle.std.proofs.lemmas.Bool.{cases_Bool, eqb-true, eq-eqb}
use Rattle.std.proofs.lemmas.List.Sums.{sum_by-cons}
use Rattle.std.proofs.lemmas.List.Sorted.{IsPermutation-refl, IsPermutation-cons, IsPermutation-middle, IsPermutation-sym, IsPermutation-trans}
pub use Rattle.dutch_sequence.specs.Stages.{total}
pub use Rattle.dutch_sequence.proofs.DifferenceRanges.{total-append as total_append}

-- where each weighs one, it is how many there are
pub total_length : (xs : List ℕ) → total (λ x. 1) xs ≡ length xs
total_length [] = refl
total_length (x ∷ xs) = omega (arith, total_length xs)

pub total_sum : (w : ℕ → ℕ) (xs : List ℕ) → total w xs ≡ sum_by w xs
total_sum w [] = refl
total_sum w (x ∷ xs) = omega (arith, total_sum w xs, sum_by-cons w x xs)

pub total_map : (w f : ℕ → ℕ) (xs : List ℕ) → total w (map f xs) ≡ total (λ x. w (f x)) xs
total_map w f [] = refl
total_map w f (x ∷ xs) = ap (λ n. w (f x) + n) (total_map w f xs)

-- the weight of one number alone
abbrev one : ℕ → ℕ → ℕ
one x y = cond (nat_eq y x) 1 0

one_itself : (x : ℕ) → one x x ≡ 1
one_itself x = ap (λ b. cond b 1 0) (eq-eqb x x refl)

-- where a number stands in a list
record Stands (x : ℕ) (ys : List ℕ) : Type 0 where
  front : List ℕ
  back : List ℕ
  is : ys ≡ front ++ x ∷ back

found : (x : ℕ) (ys : List ℕ) → 0 < total (one x) ys → Stands x ys
found x [] h = absurd (omega arith)
found x (y ∷ ys) h = elim (cases_Bool (nat_eq y x)) [
  | inl here ↦ record { front = []; back = ys; is = ap (λ z. z ∷ ys) (eqb-true y x here) }
  | inr other ↦
      let off : one x y ≡ 0 = ap (λ b. cond b 1 0) other in
      let later = found x ys (omega (arith, h, off)) in
      record { front = y ∷ later.front; back = later.back; is = ap (λ zs. y ∷ zs) later.is }
]

-- lists that always weigh the same have the same members, each as often
pub same_members : (xs ys : List ℕ) → ((w : ℕ → ℕ) → total w xs ≡ total w ys) → IsPermutation xs ys
same_members [] [] same = IsPermutation-refl []
same_members [] (y ∷ ys) same = absurd (let bad : 0 ≡ 1 + total (λ z. 1) ys = same (λ z. 1) in omega (arith, bad))
same_members (x ∷ xs) ys same =
    let at' : 1 + total (one x) xs ≡ total (one x) ys = ap (λ n. n + total (one x) xs) (sym (one_itself x)) ∙ same (one x) in
    let place = found x ys (omega (arith, at')) in
    let others : (w : ℕ → ℕ) → total w xs ≡ total w (place.front ++ place.back) = λ w.
    omega (arith, same w, ap (total w) place.is, total_append w place.front (x ∷ place.back), total_append w place.front place.back) in
    let moved : IsPermutation (x ∷ (place.front ++ place.back)) ys =
    subst (λ zs. IsPermutation (x ∷ (place.front ++ place.back)) zs) (sym place.is)
    (IsPermutation-sym (place.front ++ x ∷ place.back) (x ∷ (place.front ++ place.back)) (IsPermutation-middle place.front x place.back)) in
    IsPermutation-trans (x ∷ xs) (x ∷ (place.front ++ place.back)) ys
    (IsPermutation-cons x xs (place.front ++ place.back) (same_members xs (place.front ++ place.back) others)) moved
