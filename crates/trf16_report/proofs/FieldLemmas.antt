-- How a field falls into words, step by step, and what digits spell.
use Rattle.std.proofs.Common.{◌≡◌, ◌≢◌, ℕ, zero, suc, ◌+◌, ◌-◌, ◌^◌, ◌<◌, ◌≤◌, Bool, true, false, ◌&&◌, ◌==◌, cond, get_or, List, [], ◌∷◌, ◌++◌, length, take, drop, refl, sym, ap, ◌∙◌, arith, inl, inr, add-zero, subst}
use Rattle.std.specs.List.{list_all}
use Rattle.std.proofs.Math.Nat.{pow-le-pow_right}
use Rattle.std.proofs.lemmas.List.{take_more, drop_more, get_or-drop, length-drop}
use Rattle.std.proofs.lemmas.Bool.Decides.{eqb_tells}
use Rattle.std.proofs.lemmas.List.Folds.{list_all-append}
use Rattle.std.proofs.Math.Bool.{and-true}
use Rattle.trf16_report.specs.Prelude.{words, without_last, trimmed}

pub words-blank : (rest : List ℕ) → words (32 ∷ rest) ≡ words rest
words-blank [] = refl
words-blank (c ∷ rest) = refl

pub not_blank : (b : ℕ) → b ≢ 32 → (b == 32) ≡ false
not_blank b ne = elim (eqb_tells b 32) [ inl same ↦ absurd (ne same.1) | inr other ↦ other.0 ]

word_end : (b : ℕ) (rest : List ℕ) → b ≢ 32 → words (b ∷ 32 ∷ rest) ≡ (b ∷ []) ∷ words (32 ∷ rest)
word_end b rest ne = rw (words-blank rest, not_blank b ne) refl

pub words-word : (bytes : List ℕ) (n : ℕ) → n < length bytes + 1 → 0 < n → ((k : ℕ) → k < n → get_or bytes k 0 ≢ 32) → (n < length bytes → get_or bytes n 0 ≡ 32)
    → words bytes ≡ take n bytes ∷ words (drop n bytes)
words-word [] n within some inside behind = absurd (omega arith)
words-word bytes zero within some inside behind = absurd (omega arith)
words-word (b ∷ []) (suc n) within some inside behind =
    let zero_more : n ≡ 0 = omega arith in
    rw (zero_more, not_blank b (inside 0 (omega arith))) refl
words-word (b ∷ c ∷ rest) (suc zero) within some inside behind =
    let blank : c ≡ 32 = behind (omega arith) in
    subst (λ d. words (b ∷ d ∷ rest) ≡ (b ∷ []) ∷ words (d ∷ rest)) (sym blank) (word_end b rest (inside 0 (omega arith)))
words-word (b ∷ c ∷ rest) (suc (suc n)) within some inside behind =
    let others : words (c ∷ rest) ≡ take (suc n) (c ∷ rest) ∷ words (drop (suc n) (c ∷ rest)) =
    words-word (c ∷ rest) (suc n) (omega arith) (omega arith) (λ k lt. inside (suc k) (omega arith)) (λ lt. behind (omega arith)) in
    rw (not_blank b (inside 0 (omega arith)), not_blank c (inside 1 (omega arith)), others) refl

-- the first word behind some blanks
pub next_word_is : (bytes : List ℕ) (skip n : ℕ) (rest : List ℕ) → rest ≡ drop skip bytes → words (drop skip bytes) ≡ words bytes
    → (skip < length bytes → get_or bytes skip 0 ≢ 32) → 0 < length rest → n ≤ length rest → ((k : ℕ) → k < n → get_or rest k 0 ≢ 32)
    → (n < length rest → get_or rest n 0 ≡ 32) → words bytes ≡ take n rest ∷ words (drop n rest)
next_word_is bytes skip zero rest rest-is same first some within inside behind =
    let here : get_or rest 0 0 ≡ get_or bytes skip 0 = rw rest-is (get_or-drop skip bytes 0 0 ∙ ap (λ n. get_or bytes n 0) (add-zero skip)) in
    let long : length rest ≡ length bytes - skip = rw rest-is (length-drop skip bytes) in
    absurd (first (omega arith) (sym here ∙ behind some))
next_word_is bytes skip (suc n) rest rest-is same first some within inside behind =
    sym same ∙ ap words (sym rest-is) ∙ words-word rest (suc n) (omega arith) (omega arith) inside behind

pub words-skip : (bytes : List ℕ) (i : ℕ) → i < length bytes → get_or bytes i 0 ≡ 32 → words (drop (i + 1) bytes) ≡ words (drop i bytes)
words-skip bytes i lt blank = sym (ap words (drop_more bytes i 0 lt ∙ ap (λ b. b ∷ drop (i + 1) bytes) blank) ∙ words-blank (drop (i + 1) bytes))

push_cases : {X : Type 0} (y : X) (kept all : List X) (here others last : Bool)
    → cond (here && (others && (last && true))) [] (y ∷ cond last kept all) ≡ cond last (cond (here && others) [] (y ∷ kept)) (y ∷ all)
push_cases y kept all true true true = refl
push_cases y kept all true true false = refl
push_cases y kept all true false true = refl
push_cases y kept all true false false = refl
push_cases y kept all false true true = refl
push_cases y kept all false true false = refl
push_cases y kept all false false true = refl
push_cases y kept all false false false = refl

one_case : {X : Type 0} (x : X) (last : Bool) → cond (last && true) [] (x ∷ []) ≡ cond last [] (x ∷ [])
one_case x true = refl
one_case x false = refl

pub without_last-push : {X : Type 0} (test : X → Bool) (xs : List X) (x : X) → without_last test (xs ++ x ∷ []) ≡ cond (test x) (without_last test xs) (xs ++ x ∷ [])
without_last-push test [] x = one_case x (test x)
without_last-push test (y ∷ xs) x =
    rw (list_all-append test xs (x ∷ []), without_last-push test xs x) (push_cases y (without_last test xs) (xs ++ x ∷ []) (test y) (list_all test xs) (test x))

-- one more item is looked at
pub without_last-more : {X : Type 0} (test : X → Bool) (xs : List X) (i : ℕ) (d : X) → i < length xs
    → without_last test (take (i + 1) xs) ≡ cond (test (get_or xs i d)) (without_last test (take i xs)) (take (i + 1) xs)
without_last-more test xs i d lt = rw (take_more xs i d lt) (without_last-push test (take i xs) (get_or xs i d))

-- the last byte of a text is looked at
pub trimmed-blank : (text front : List ℕ) (last : ℕ) → text ≡ front ++ last ∷ [] → last ≡ 32 → trimmed text ≡ trimmed front
trimmed-blank text front last e blank = ap trimmed e ∙ without_last-push (λ b. b == 32) front last ∙ rw blank refl

pub trimmed-stays : (text front : List ℕ) (last : ℕ) → text ≡ front ++ last ∷ [] → last ≢ 32 → trimmed text ≡ text
trimmed-stays text front last e other = ap trimmed e ∙ without_last-push (λ b. b == 32) front last ∙ rw (not_blank last other) (sym e)

-- a number of few digits is small
pub below-power : (whole i most : ℕ) → whole + 1 ≤ 10 ^ i → i ≤ most → whole + 1 ≤ 10 ^ most
below-power whole i most digits few =
    let more : 10 ^ i ≤ 10 ^ most = pow-le-pow_right (omega arith) few in
    omega (arith, digits, more)

-- items at the end of a list that pass a test
without_last-all : {X : Type 0} (test : X → Bool) (xs : List X) → list_all test xs ≡ true → without_last test xs ≡ []
without_last-all test [] h = refl
without_last-all test (x ∷ xs) h = rw h refl

pub without_last-append : {X : Type 0} (test : X → Bool) (xs ys : List X) → list_all test ys ≡ true → without_last test (xs ++ ys) ≡ without_last test xs
without_last-append test [] ys h = without_last-all test ys h
without_last-append test (x ∷ xs) ys h =
    rw (list_all-append test xs ys, h, and-true (list_all test xs), without_last-append test xs ys h) refl
