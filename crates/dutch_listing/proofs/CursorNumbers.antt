-- The numbers of a cursor's text: printed ones are read back, and what is read is what is printed.
use Rattle.std.proofs.Common.{◌≡◌, ◌≢◌, ℕ, zero, suc, ◌+◌, ◌-◌, ◌*◌, ◌/◌, ◌%◌, ◌≤◌, Bool, true, false, not, ◌&&◌, ◌==◌, cond, List, [], ◌∷◌, ◌++◌, map, length, refl, sym, ap, ◌∙◌, arith, inl, inr, subst, append_assoc, Option, Some, None}
use Rattle.std.specs.Prelude.{nat_le}
use Rattle.std.specs.Fmt.{decimal, digits}
use Rattle.std.specs.List.{list_all, AllByRecursion}
use Rattle.std.specs.Char.{is_ascii_digit}
use Rattle.std.proofs.lemmas.List.{append-nil}
use Rattle.std.proofs.lemmas.Bool.{cases_lt, and_parts, eqb-true, leb-true, true≢false, eq-eqb, not-true}
use Rattle.std.proofs.lemmas.Bool.Decides.{nat_tests}
use Rattle.std.proofs.lemmas.Fmt.{decimal_digit, decimal_step}
use Rattle.dutch_arrangements.specs.Prelude.{number_after, is_numeral, number_of}
use Rattle.dutch_arrangements.specs.Cursors.{numbers_of, ◌>>=◌}
use Rattle.dutch_sequence.specs.declared.numbers.TheConstants.{LIMIT}

-- the numbers that a cursor may have
pub record IsNumber (n : ℕ) : Type 0 where
  pub some : 1 ≤ n
  pub few : n ≤ LIMIT

is_self : Option ℕ → ℕ → Bool
is_self (Some read) n = read == n
is_self None n = false

reads : ℕ → Bool
reads n = is_self (number_of (decimal n)) n

all_read : ℕ → Bool
all_read zero = true
all_read (suc n) = reads (suc n) && all_read n

all_read_limit : all_read LIMIT ≡ true
unfolding all_read reads is_self digits
all_read_limit = refl

reads_up_to : (n : ℕ) → all_read n ≡ true → (number : ℕ) → 1 ≤ number → number ≤ n → reads number ≡ true
unfolding all_read
reads_up_to zero h number some within = absurd (omega arith)
reads_up_to (suc n) h number some within =
    let both = and_parts (reads (suc n)) (all_read n) h in
    elim (cases_lt number (suc n)) [
      | inl below ↦ reads_up_to n both.1 number some (omega (arith, below))
      | inr above ↦ let same : suc n ≡ number = omega (arith, above) in subst (λ k. reads k ≡ true) same both.0
    ]

self_read : (read : Option ℕ) (n : ℕ) → is_self read n ≡ true → read ≡ Some n
unfolding is_self
self_read None n h = absurd (true≢false (sym h))
self_read (Some read) n h = ap Some (eqb-true read n h)

pub number_of-decimal : (n : ℕ) → IsNumber n → number_of (decimal n) ≡ Some n
unfolding reads
number_of-decimal n is = self_read (number_of (decimal n)) n (reads_up_to LIMIT all_read_limit n is.some is.few)

pub numbers_of-decimals : (xs : List ℕ) → AllByRecursion IsNumber xs → numbers_of (map decimal xs) ≡ Some xs
numbers_of-decimals [] all = refl
numbers_of-decimals (x ∷ xs) all =
    rw (number_of-decimal x all.0, numbers_of-decimals xs all.1) refl

-- a word that is read
pub record IsRead (word : List ℕ) (n : ℕ) : Type 0 where
  pub numeral : is_numeral word ≡ true
  pub few : number_after 0 word ≤ LIMIT
  pub value : number_after 0 word ≡ n

some_same : (x y : ℕ) → Some x ≡ Some y → x ≡ y
some_same x y h = cc

none_some : {X : Type 0} (x : X) → None ≡ Some x → ⊥
none_some x h = cc

cond_read : (word : List ℕ) (b : Bool) (n : ℕ) → (is_numeral word && nat_le (number_after 0 word) LIMIT) ≡ b → cond b (Some (number_after 0 word)) None ≡ Some n → IsRead word n
cond_read word true n same h =
    let both = and_parts (is_numeral word) (nat_le (number_after 0 word) LIMIT) same in
    record { numeral = both.0; few = leb-true (number_after 0 word) LIMIT both.1; value = some_same (number_after 0 word) n h }
cond_read word false n same h = absurd (none_some n h)

pub is_read : (word : List ℕ) (n : ℕ) → number_of word ≡ Some n → IsRead word n
is_read word n h = cond_read word (is_numeral word && nat_le (number_after 0 word) LIMIT) n refl h

digit : (b : ℕ) → is_ascii_digit b ≡ true → (48 ≤ b) × (b ≤ 57)
digit b h = grind (arith, nat_tests)

first_digit : (b : ℕ) → not (b == 48) ≡ true → b ≢ 48
first_digit b h same = true≢false (sym (eq-eqb b 48 same) ∙ not-true (b == 48) h)

step : (n : ℕ) → 10 ≤ n → n ≤ LIMIT → (front : ℕ) (last : ℕ) → n / 10 ≡ front → 48 + n % 10 ≡ last → decimal n ≡ decimal front ++ last ∷ []
step n some few front last tens ones =
    decimal_step n some (omega arith) ∙ ap (λ f. decimal f ++ (48 + n % 10) ∷ []) tens ∙ ap (λ l. decimal front ++ l ∷ []) ones

one_digit : (a : ℕ) → 48 ≤ a → a ≤ 57 → decimal (a - 48) ≡ a ∷ []
one_digit a low high = decimal_digit (a - 48) (omega arith) ∙ ap (λ d. d ∷ []) (let e : 48 + (a - 48) ≡ a = omega arith in e)

above : (front : ℕ) (rest : List ℕ) → front ≤ number_after front rest
above front [] = omega arith
above front (c ∷ rest) = omega (arith, above (10 * front + (c - 48)) rest)

longer : (front : ℕ) (word rest : List ℕ) → 1 ≤ front → decimal front ≡ word → list_all is_ascii_digit rest ≡ true → number_after front rest ≤ LIMIT
    → decimal (number_after front rest) ≡ word ++ rest
longer front word [] some same all few = same ∙ sym (append-nil word)
longer front word (c ∷ rest) some same all few =
    let both = and_parts (is_ascii_digit c) (list_all is_ascii_digit rest) all in
    let is = digit c both.0 in
    let n = 10 * front + (c - 48) in
    let next : decimal n ≡ word ++ c ∷ [] =
    step n (omega arith) (omega (arith, above n rest)) front c (omega (arith, is.0, is.1)) (omega (arith, is.0, is.1)) ∙ ap (λ f. f ++ c ∷ []) same in
    longer n (word ++ c ∷ []) rest (omega arith) next both.1 few ∙ append_assoc word (c ∷ []) rest

-- what is read is what is printed
pub decimal-read : (word : List ℕ) → is_numeral word ≡ true → number_after 0 word ≤ LIMIT → (decimal (number_after 0 word) ≡ word) × (1 ≤ number_after 0 word)
decimal-read [] h few = absurd (true≢false (sym h))
decimal-read (a ∷ rest) h few =
    let first = and_parts (not (a == 48)) (nat_le (length rest) 3 && list_all is_ascii_digit (a ∷ rest)) h in
    let second = and_parts (nat_le (length rest) 3) (list_all is_ascii_digit (a ∷ rest)) first.1 in
    let third = and_parts (is_ascii_digit a) (list_all is_ascii_digit rest) second.1 in
    let is = digit a third.0 in
    let apart : a ≢ 48 = first_digit a first.0 in
    let value : 10 * 0 + (a - 48) ≡ a - 48 = omega arith in
    let some : 1 ≤ 10 * 0 + (a - 48) = omega (arith, is.0, apart) in
    (longer (10 * 0 + (a - 48)) (a ∷ []) rest some (ap decimal value ∙ one_digit a is.0 is.1) third.1 few, omega (arith, some, above (10 * 0 + (a - 48)) rest))

pub word_of : (word : List ℕ) (n : ℕ) → number_of word ≡ Some n → (word ≡ decimal n) × IsNumber n
word_of word n h =
    let is = is_read word n h in
    let read = decimal-read word is.numeral is.few in
    (sym read.0 ∙ ap decimal is.value, record { some = omega (arith, is.value, read.1); few = omega (arith, is.value, is.few) })

list_same : (x : ℕ) (xs ys : List ℕ) → Some (x ∷ xs) ≡ Some ys → x ∷ xs ≡ ys
list_same x xs ys h = cc

pub words_of : (words : List (List ℕ)) (xs : List ℕ) → numbers_of words ≡ Some xs → (words ≡ map decimal xs) × AllByRecursion IsNumber xs
words_of [] [] h = (refl, tt)
words_of [] (x ∷ xs) h = absurd (let e : Some [] ≡ Some (x ∷ xs) = h in cc)
words_of (word ∷ words) xs h = from (number_of word) (numbers_of words) (λ n is. word_of word n is) (λ ns is. words_of words ns is) refl refl h
  where
    from : (first : Option ℕ) (others : Option (List ℕ))
        → ((n : ℕ) → number_of word ≡ Some n → (word ≡ decimal n) × IsNumber n)
        → ((ns : List ℕ) → numbers_of words ≡ Some ns → (words ≡ map decimal ns) × AllByRecursion IsNumber ns)
        → number_of word ≡ first → numbers_of words ≡ others → (first >>= (λ number. others >>= (λ numbers. Some (number ∷ numbers)))) ≡ Some xs
        → (word ∷ words ≡ map decimal xs) × AllByRecursion IsNumber xs
    from None others here later first-is others-is same = absurd (none_some xs same)
    from (Some n) None here later first-is others-is same = absurd (none_some xs same)
    from (Some n) (Some ns) here later first-is others-is same =
        subst (λ ys. (word ∷ words ≡ map decimal ys) × AllByRecursion IsNumber ys) (list_same n ns xs same)
        (ap (λ w. w ∷ words) (here n first-is).0 ∙ ap (λ ws. decimal n ∷ ws) (later ns others-is).0, ((here n first-is).1, (later ns others-is).1))
