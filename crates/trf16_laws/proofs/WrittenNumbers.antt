-- Numbers and points, written in four columns, read back as themselves.
use Rattle.std.proofs.Common.{◌≡◌, ◌≢◌, ℕ, zero, suc, ◌-◌, ◌^◌, ◌<◌, ◌≤◌, Bool, true, false, ◌&&◌, ◌==◌, List, [], ◌∷◌, ◌++◌, length, refl, sym, ap, ◌∙◌, arith, inl, inr, subst, Option, Some, None}
use Rattle.std.specs.Fmt.{decimal, digits}
use Rattle.std.specs.List.{list_all}
use Rattle.std.specs.Char.{is_ascii_digit}
use Rattle.std.proofs.lemmas.Bool.{le-leb, cases_lt, and_parts, eqb-true, true≢false}
use Rattle.std.proofs.lemmas.Bool.Decides.{nat_tests}
use Rattle.std.proofs.lemmas.Fmt.{digits_decimal, digits_value-decimal, length-decimal-le, decimal_nonempty}
use Rattle.trf16_report.specs.Prelude.{words, number_after, number_of, number_in, points_in, blanks, right_in_four, points_text}
use Rattle.trf16_report.proofs.WrittenColumns.{is_plain}
use Rattle.trf16_report.proofs.FieldLemmas.{words-blank, not_blank}
use Rattle.trf16_writer.proofs.ReadStarts.{own}

small : (n : ℕ) → n < 10000 → n < 2 ^ 64
small n lt = omega arith

pub digits-decimal : (n : ℕ) → n < 10000 → list_all is_ascii_digit (decimal n) ≡ true
digits-decimal n lt = digits_decimal own n (small n lt)

pub value-decimal : (n : ℕ) → n < 10000 → number_after 0 (decimal n) ≡ n
value-decimal n lt = digits_value-decimal own n (small n lt)

pub length-decimal : (n : ℕ) → n < 10000 → (0 < length (decimal n)) × (length (decimal n) ≤ 4)
length-decimal n lt = (decimal_nonempty n (small n lt), length-decimal-le 4 n (omega arith) (omega arith) (small n lt))

pub words-blanks : (n : ℕ) (rest : List ℕ) → words (blanks n ++ rest) ≡ words rest
words-blanks zero rest = refl
words-blanks (suc n) rest = words-blank (blanks n ++ rest) ∙ words-blanks n rest

digit_not_blank : (b : ℕ) → is_ascii_digit b ≡ true → b ≢ 32
digit_not_blank b h = grind (arith, nat_tests)

-- digits are one word
pub words-digits : (bs : List ℕ) → list_all is_ascii_digit bs ≡ true → 0 < length bs → words bs ≡ bs ∷ []
words-digits [] h some = absurd (omega arith)
words-digits (b ∷ []) h some = rw (not_blank b (digit_not_blank b (and_parts (is_ascii_digit b) true h).0)) refl
words-digits (b ∷ c ∷ rest) h some =
    let first = and_parts (is_ascii_digit b) (list_all is_ascii_digit (c ∷ rest)) h in
    let second = and_parts (is_ascii_digit c) (list_all is_ascii_digit rest) first.1 in
    let others : words (c ∷ rest) ≡ (c ∷ rest) ∷ [] = words-digits (c ∷ rest) first.1 (omega arith) in
    rw (not_blank b (digit_not_blank b first.0), not_blank c (digit_not_blank c second.0), others) refl

pub number_of-decimal : (n : ℕ) → n < 10000 → number_of (decimal n) ≡ Some n
number_of-decimal n lt =
    let sizes = length-decimal n lt in
    rw (le-leb 1 (length (decimal n)) sizes.0, le-leb (length (decimal n)) 4 sizes.1, digits-decimal n lt, value-decimal n lt) refl

pub numbers : (n : ℕ) → n < 10000 → number_in (words (right_in_four (decimal n))) ≡ Some n
numbers n lt =
    rw (words-blanks (4 - length (decimal n)) (decimal n), words-digits (decimal n) (digits-decimal n lt) (length-decimal n lt).0) (number_of-decimal n lt)

is_self : Option (Option ℕ) → ℕ → Bool
is_self (Some (Some read)) points = read == points
is_self _ points = false

reads : ℕ → Bool
reads points =
    is_self (points_in (words (right_in_four (points_text points)))) points
    && (list_all is_plain (right_in_four (points_text points)) && (length (right_in_four (points_text points)) == 4))

all_read : ℕ → Bool
all_read zero = true
all_read (suc n) = reads n && all_read n

all_read_200 : all_read 200 ≡ true
unfolding all_read reads is_self digits
all_read_200 = refl

reads_below : (n : ℕ) → all_read n ≡ true → (points : ℕ) → points < n → reads points ≡ true
unfolding all_read
reads_below zero h points lt = absurd (omega arith)
reads_below (suc n) h points lt =
    let both = and_parts (reads n) (all_read n) h in
    elim (cases_lt points n) [
      | inl below ↦ reads_below n both.1 points below
      | inr above ↦ let same : n ≡ points = omega arith in subst (λ k. reads k ≡ true) same both.0
    ]

self_read : (read : Option (Option ℕ)) (points : ℕ) → is_self read points ≡ true → read ≡ Some (Some points)
unfolding is_self
self_read None points h = absurd (true≢false (sym h))
self_read (Some None) points h = absurd (true≢false (sym h))
self_read (Some (Some read)) points h = ap (λ n. Some (Some n)) (eqb-true read points h)

-- points, in four columns
pub record ArePoints (n : ℕ) : Type 0 where
  pub read : points_in (words (right_in_four (points_text n))) ≡ Some (Some n)
  pub plain : list_all is_plain (right_in_four (points_text n)) ≡ true
  pub four : length (right_in_four (points_text n)) ≡ 4

pub points_are : (n : ℕ) → n < 200 → ArePoints n
unfolding reads
points_are n lt =
    let text = right_in_four (points_text n) in
    let one = and_parts (is_self (points_in (words text)) n) (list_all is_plain text && (length text == 4)) (reads_below 200 all_read_200 n lt) in
    let two = and_parts (list_all is_plain text) (length text == 4) one.1 in
    record { read = self_read (points_in (words text)) n one.0; plain = two.0; four = eqb-true (length text) 4 two.1 }

pub points : (n : ℕ) → n < 200 → points_in (words (right_in_four (points_text n))) ≡ Some (Some n)
points n lt = (points_are n lt).read
