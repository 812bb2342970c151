-- How a text falls into parts, and what is joined falls into its parts again.
use Rattle.std.proofs.Common.{◌≡◌, ◌≢◌, ℕ, zero, suc, ◌<◌, true, false, ◌==◌, cond, get_or, List, [], ◌∷◌, ◌++◌, length, take, drop, refl, sym, ap, ◌∙◌, arith, inl, inr}
use Rattle.std.specs.List.{flat_map, AllByRecursion}
use Rattle.std.proofs.lemmas.Bool.Decides.{eqb_tells}
use Rattle.dutch_arrangements.specs.Prelude.{onto_first, parts}

pub not_separator : (b separator : ℕ) → b ≢ separator → (b == separator) ≡ false
not_separator b separator ne = elim (eqb_tells b separator) [ inl same ↦ absurd (ne same.1) | inr other ↦ other.0 ]

pub is_separator : (b separator : ℕ) → b ≡ separator → (b == separator) ≡ true
is_separator b separator same = elim (eqb_tells b separator) [ inl equal ↦ equal.0 | inr other ↦ absurd (other.1 same) ]

-- with no separator there is one part
pub parts-one : (separator : ℕ) (bytes : List ℕ) → ((k : ℕ) → k < length bytes → get_or bytes k 0 ≢ separator) → parts separator bytes ≡ bytes ∷ []
parts-one separator [] none = refl
parts-one separator (b ∷ rest) none =
    rw (not_separator b separator (none 0 (omega arith)), parts-one separator rest (λ k lt. none (suc k) (omega arith))) refl

-- the first separator ends the first part
pub parts-first : (separator : ℕ) (bytes : List ℕ) (n : ℕ) → n < length bytes → ((k : ℕ) → k < n → get_or bytes k 0 ≢ separator) → get_or bytes n 0 ≡ separator
    → parts separator bytes ≡ take n bytes ∷ parts separator (drop 1 (drop n bytes))
parts-first separator [] n within inside behind = absurd (omega arith)
parts-first separator (b ∷ rest) zero within inside behind = rw (is_separator b separator behind) refl
parts-first separator (b ∷ rest) (suc n) within inside behind =
    rw (not_separator b separator (inside 0 (omega arith)), parts-first separator rest n (omega arith) (λ k lt. inside (suc k) (omega arith)) behind) refl

-- a text without a separator
abbrev pub IsFree : ℕ → List ℕ → Type 0
IsFree separator text = AllByRecursion (λ b. b ≢ separator) text

pub free-append : (separator : ℕ) (xs ys : List ℕ) → IsFree separator xs → IsFree separator ys → IsFree separator (xs ++ ys)
free-append separator [] ys p q = q
free-append separator (x ∷ xs) ys p q = (p.0, free-append separator xs ys p.1 q)

-- it is one part
pub parts-free : (separator : ℕ) (text : List ℕ) → IsFree separator text → parts separator text ≡ text ∷ []
parts-free separator [] free = refl
parts-free separator (b ∷ text) free = rw (not_separator b separator free.0, parts-free separator text free.1) refl

-- and in front of a separator it is the first part
pub parts-join : (separator : ℕ) (text rest : List ℕ) → IsFree separator text → parts separator (text ++ separator ∷ rest) ≡ text ∷ parts separator rest
parts-join separator [] rest free = rw (is_separator separator separator refl) refl
parts-join separator (b ∷ text) rest free = rw (not_separator b separator free.0, parts-join separator text rest free.1) refl

-- parts put together again
abbrev pub glue : ℕ → List (List ℕ) → List ℕ
glue separator [] = []
glue separator (text ∷ texts) = text ++ flat_map (λ other. separator ∷ other) texts

glue-onto : (separator b : ℕ) (texts : List (List ℕ)) → glue separator (onto_first b texts) ≡ b ∷ glue separator texts
glue-onto separator b [] = refl
glue-onto separator b (text ∷ texts) = refl

onto-glue : (separator b : ℕ) (texts : List (List ℕ)) → flat_map (λ other. separator ∷ other) (onto_first b texts) ≡ separator ∷ glue separator (onto_first b texts)
onto-glue separator b [] = refl
onto-glue separator b (text ∷ texts) = refl

pub parts-behind : (separator : ℕ) (bytes : List ℕ) → flat_map (λ other. separator ∷ other) (parts separator bytes) ≡ separator ∷ glue separator (parts separator bytes)
parts-behind separator [] = refl
parts-behind separator (b ∷ rest) =
    elim (b == separator) as (λ is. flat_map (λ other. separator ∷ other) (cond is ([] ∷ parts separator rest) (onto_first b (parts separator rest)))
    ≡ separator ∷ glue separator (cond is ([] ∷ parts separator rest) (onto_first b (parts separator rest)))) [
      | true ↦ refl
      | false ↦ onto-glue separator b (parts separator rest)
    ]

-- are the text
pub glue-parts : (separator : ℕ) (bytes : List ℕ) → glue separator (parts separator bytes) ≡ bytes
glue-parts separator [] = refl
glue-parts separator (b ∷ rest) =
    elim (eqb_tells b separator) [
      | inl same ↦ rw same.0 (parts-behind separator rest ∙ ap (λ text. separator ∷ text) (glue-parts separator rest) ∙ ap (λ c. c ∷ rest) (sym same.1))
      | inr other ↦ rw other.0 (glue-onto separator b (parts separator rest) ∙ ap (λ text. b ∷ text) (glue-parts separator rest))
    ]
