-- Where a seat stands in a list.
use Rattle.std.proofs.Common.{◌≡◌, ℕ, zero, suc, ◌<◌, ◌==◌, cond, List, [], ◌∷◌, length, get_or, refl, sym, ap, ◌∙◌, arith, subst, inl, inr}
use Rattle.std.proofs.lemmas.Bool.{cases_eq, eq-eqb, ne_eqb}
use Rattle.dutch_arrangements.specs.Prelude.{NoneTwice, IsIn}

abbrev pub place_of : ℕ → List ℕ → ℕ
place_of s [] = 0
place_of s (x ∷ xs) = cond (x == s) 0 (suc (place_of s xs))

place_here : (s x : ℕ) (xs : List ℕ) → x ≡ s → place_of s (x ∷ xs) ≡ 0
place_here s x xs same = ap (λ t. cond t 0 (suc (place_of s xs))) (eq-eqb x s same)

place_later : (s x : ℕ) (xs : List ℕ) → (x ≡ s → ⊥) → place_of s (x ∷ xs) ≡ suc (place_of s xs)
place_later s x xs ne = ap (λ t. cond t 0 (suc (place_of s xs))) (ne_eqb x s ne)

pub place_get : (s : ℕ) (xs : List ℕ) → IsIn s xs → (place_of s xs < length xs) × (get_or xs (place_of s xs) 0 ≡ s)
place_get s [] m = absurd m
place_get s (x ∷ xs) m =
    elim (cases_eq x s) [
      | inl same ↦
          subst (λ k. (k < length (x ∷ xs)) × (get_or (x ∷ xs) k 0 ≡ s)) (sym (place_here s x xs same)) (omega arith, same)
      | inr ne ↦
          let later = place_get s xs (elim m [ inl same ↦ absurd (ne (sym same)) | inr more ↦ more ]) in
          subst (λ k. (k < length (x ∷ xs)) × (get_or (x ∷ xs) k 0 ≡ s)) (sym (place_later s x xs ne)) (omega (arith, later.0), later.1)
    ]

pub get_in : (xs : List ℕ) (i : ℕ) → i < length xs → IsIn (get_or xs i 0) xs
get_in [] i lt = absurd (omega (arith, lt))
get_in (x ∷ xs) zero lt = inl refl
get_in (x ∷ xs) (suc i) lt = inr (get_in xs i (omega (arith, lt)))

pub get_place : (xs : List ℕ) (i : ℕ) → NoneTwice xs → i < length xs → place_of (get_or xs i 0) xs ≡ i
get_place [] i twice lt = absurd (omega (arith, lt))
get_place (x ∷ xs) zero twice lt = place_here x x xs refl
get_place (x ∷ xs) (suc i) twice lt =
    place_later (get_or xs i 0) x xs (λ same. twice.0 (subst (λ y. IsIn y xs) (sym same) (get_in xs i (omega (arith, lt)))))
    ∙ ap suc (get_place xs i twice.1 (omega (arith, lt)))
