-- What the lemmas of std on lists leave out.
use Rattle.std.proofs.Common.{◌≡◌, ℕ, zero, suc, ◌+◌, ◌<◌, ◌≤◌, Bool, true, false, ◌&&◌, cond, List, [], ◌∷◌, ◌++◌, map, length, get_or, refl, sym, ◌∙◌, ap, arith, add-zero}
use Rattle.std.specs.List.{filter, flat_map}
use Rattle.std.proofs.lemmas.List.{map-append}
use Rattle.std.proofs.lemmas.List.Elements.{filter-append}
use Rattle.dutch_sequence.specs.Prelude.{numbers_from}

pub map-flat_map : {A B C : Type 0} (f : B → C) (g : A → List B) (xs : List A) → map f (flat_map g xs) ≡ flat_map (λ x. map f (g x)) xs
map-flat_map f g [] = refl
map-flat_map f g (x ∷ xs) = map-append f (g x) (flat_map g xs) ∙ ap (λ rest. map f (g x) ++ rest) (map-flat_map f g xs)

pub filter-flat_map : {A B : Type 0} (p : B → Bool) (g : A → List B) (xs : List A) → filter p (flat_map g xs) ≡ flat_map (λ x. filter p (g x)) xs
filter-flat_map p g [] = refl
filter-flat_map p g (x ∷ xs) = filter-append p (g x) (flat_map g xs) ∙ ap (λ rest. filter p (g x) ++ rest) (filter-flat_map p g xs)

flat_map-cond : {A B : Type 0} (g : A → List B) (b : Bool) (x : A) (xs : List A) → flat_map g (cond b (x ∷ xs) xs) ≡ cond b (g x) [] ++ flat_map g xs
flat_map-cond g true x xs = refl
flat_map-cond g false x xs = refl

pub flat_map-filter : {A B : Type 0} (g : A → List B) (p : A → Bool) (xs : List A) → flat_map g (filter p xs) ≡ flat_map (λ x. cond (p x) (g x) []) xs
flat_map-filter g p [] = refl
flat_map-filter g p (x ∷ xs) =
    flat_map-cond g (p x) x (filter p xs) ∙ ap (λ rest. cond (p x) (g x) [] ++ rest) (flat_map-filter g p xs)

pub flat_map-same : {A B : Type 0} (f g : A → List B) (xs : List A) → ((x : A) → f x ≡ g x) → flat_map f xs ≡ flat_map g xs
flat_map-same f g [] same = refl
flat_map-same f g (x ∷ xs) same = ap (λ front. front ++ flat_map f xs) (same x) ∙ ap (λ rest. g x ++ rest) (flat_map-same f g xs same)

-- two maps that agree below a bound agree on numbers below it
pub flat_map-below : {B : Type 0} (f g : ℕ → List B) (bound first count : ℕ) → first + count ≤ bound → ((i : ℕ) → i < bound → f i ≡ g i) → flat_map f (numbers_from first count) ≡ flat_map g (numbers_from first count)
flat_map-below f g bound first zero fit same = refl
flat_map-below f g bound first (suc count) fit same =
    ap (λ front. front ++ flat_map f (numbers_from (suc first) count)) (same first (omega arith))
    ∙ ap (λ rest. g first ++ rest) (flat_map-below f g bound (suc first) count (omega arith) same)

-- the reads of a list, one after another, are the list
pub map-numbers_from : (f : ℕ → ℕ) (xs : List ℕ) (first : ℕ) → ((j : ℕ) → j < length xs → f (first + j) ≡ get_or xs j 0) → map f (numbers_from first (length xs)) ≡ xs
map-numbers_from f [] first reads = refl
map-numbers_from f (x ∷ xs) first reads =
    let here : f first ≡ x = ap f (sym (add-zero first)) ∙ reads 0 (omega arith) in
    ap (λ y. y ∷ map f (numbers_from (suc first) (length xs))) here
    ∙ ap
    (λ rest. x ∷ rest)
    (map-numbers_from f xs (suc first)
    (λ j lt. let moved : suc first + j ≡ first + suc j = omega arith in ap f moved ∙ reads (suc j) (omega arith)))

pub map-same : {A B : Type 0} (f g : A → B) (xs : List A) → ((x : A) → f x ≡ g x) → map f xs ≡ map g xs
map-same f g [] same = refl
map-same f g (x ∷ xs) same = ap (λ y. y ∷ map f xs) (same x) ∙ ap (λ rest. g x ∷ rest) (map-same f g xs same)

pub filter-same : {A : Type 0} (p q : A → Bool) (xs : List A) → ((x : A) → p x ≡ q x) → filter p xs ≡ filter q xs
filter-same p q [] same = refl
filter-same p q (x ∷ xs) same =
    ap (λ b. cond b (x ∷ filter p xs) (filter p xs)) (same x) ∙ ap (λ rest. cond (q x) (x ∷ rest) rest) (filter-same p q xs same)

filter-cond : {A : Type 0} (q : A → Bool) (b : Bool) (x : A) (xs : List A) → filter q (cond b (x ∷ xs) xs) ≡ cond (b && q x) (x ∷ filter q xs) (filter q xs)
filter-cond q true x xs = refl
filter-cond q false x xs = refl

pub filter-filter : {A : Type 0} (q p : A → Bool) (xs : List A) → filter q (filter p xs) ≡ filter (λ x. p x && q x) xs
filter-filter q p [] = refl
filter-filter q p (x ∷ xs) =
    filter-cond q (p x) x (filter p xs) ∙ ap (λ rest. cond (p x && q x) (x ∷ rest) rest) (filter-filter q p xs)

pub filter-all : {A : Type 0} (xs : List A) → filter (λ x. true) xs ≡ xs
filter-all [] = refl
filter-all (x ∷ xs) = ap (λ rest. x ∷ rest) (filter-all xs)
