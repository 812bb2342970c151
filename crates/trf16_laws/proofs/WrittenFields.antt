-- The carried columns and the points of a player: trimmed, written in their columns, and read again.
use Rattle.std.proofs.Common.{◌≡◌, ℕ, zero, suc, ◌+◌, ◌-◌, ◌*◌, ◌<◌, ◌≤◌, Bool, true, false, ◌&&◌, ◌||◌, ◌==◌, nat_le, cond, List, [], ◌∷◌, ◌++◌, length, take, drop, refl, sym, ap, ◌∙◌, arith, subst, Option, Some, None}
use Rattle.std.specs.List.{list_all}
use Rattle.std.specs.Char.{is_ascii, is_ascii_digit}
use Rattle.std.specs.Str.{is_utf8}
use Rattle.std.proofs.lemmas.Bool.{and_parts, and_from, eqb-true}
use Rattle.std.proofs.lemmas.Bool.Decides.{nat_tests}
use Rattle.std.proofs.lemmas.List.{length-append, length-replicate, length-take, take-append-drop, drop-drop}
use Rattle.std.proofs.lemmas.Option.{none-some}
use Rattle.std.proofs.lemmas.List.Folds.{list_all-append as all-append}
use Rattle.trf16_report.specs.Prelude.{columns, joined, is_blank, words, number_in, half_after, points_after, points_of, points_in, without_last, trimmed, blanks, left_in, points_field}
use Rattle.trf16_report.proofs.FieldLemmas.{without_last-append}
use Rattle.trf16_report.proofs.ColumnLemmas.{joined-columns, joined-append}
use Rattle.trf16_laws.proofs.WrittenNumbers.{points_are}
use Rattle.trf16_report.proofs.WrittenColumns.{is_plain, each, length-each, starts, starts-append, starts-ascii, starts-joined, columns-append, columns-ascii, columns-joined, columns-fewer, AreColumns, AreColumns-drop, AreColumns-take, columns-are, ascii-plain}
use Rattle.trf16_laws.proofs.WrittenCells.{plain-blanks, ascii-digits, list_all-append}
use Rattle.trf16_writer.proofs.ReadStarts.{number_is}
use Rattle.trf16_laws.proofs.WrittenRounds.{then_some, ascii-words, ascii_both}
use Rattle.trf16_laws.proofs.WrittenText.{is_inside, utf8_front}

-- items at the end of a list that pass a test

list_all-without_last : {X : Type 0} (test : X → Bool) (xs : List X) → list_all test (without_last test xs) ≡ list_all test xs
list_all-without_last test [] = refl
list_all-without_last test (x ∷ xs) = by (test x && list_all test xs) refl (list_all-without_last test xs)
  where
    by : (b : Bool) → (test x && list_all test xs) ≡ b → list_all test (without_last test xs) ≡ list_all test xs → list_all test (cond b [] (x ∷ without_last test xs)) ≡ b
    by true e h = refl
    by false e h = rw h e

pub without_last-twice : {X : Type 0} (test : X → Bool) (xs : List X) → without_last test (without_last test xs) ≡ without_last test xs
without_last-twice test [] = refl
without_last-twice test (x ∷ xs) = by (test x && list_all test xs) refl (without_last-twice test xs) (list_all-without_last test xs)
  where
    by : (b : Bool) → (test x && list_all test xs) ≡ b → without_last test (without_last test xs) ≡ without_last test xs
        → list_all test (without_last test xs) ≡ list_all test xs
        → without_last test (cond b [] (x ∷ without_last test xs)) ≡ cond b [] (x ∷ without_last test xs)
    by true e h same = refl
    by false e h same = rw (same, e, h) refl

-- what is left and what was cut off
pub record IsCut {X : Type 0} (test : X → Bool) (xs : List X) : Type 0 where
  pub back : List X
  pub parts : xs ≡ without_last test xs ++ back
  pub passes : list_all test back ≡ true

pub cut : {X : Type 0} (test : X → Bool) (xs : List X) → IsCut test xs
cut test [] = record { back = []; parts = refl; passes = refl }
cut {X} test (x ∷ xs) = by (test x && list_all test xs) refl (cut test xs)
  where
    by : (b : Bool) → (test x && list_all test xs) ≡ b → IsCut test xs
        → IsCut test (x ∷ xs)
    by true e h = record { back = x ∷ xs; parts = rw e refl; passes = e }
    by false e h = record { back = h.back; parts = rw e (ap (λ (l : List X). x ∷ l) h.parts); passes = h.passes }

pub all_front : {X : Type 0} (test : X → Bool) (xs ys : List X) → list_all test (xs ++ ys) ≡ true → list_all test xs ≡ true
all_front test xs ys h = (and_parts (list_all test xs) (list_all test ys) (sym (all-append test xs ys) ∙ h)).0

pub all_back : {X : Type 0} (test : X → Bool) (xs ys : List X) → list_all test (xs ++ ys) ≡ true → list_all test ys ≡ true
all_back test xs ys h = (and_parts (list_all test xs) (list_all test ys) (sym (all-append test xs ys) ∙ h)).1

pub all_cut : {X : Type 0} (test other : X → Bool) (xs : List X) → list_all other xs ≡ true → list_all other (without_last test xs) ≡ true
all_cut test other xs h = let c = cut test xs in all_front other (without_last test xs) c.back (rw (← c.parts) h)

pub length_cut : {X : Type 0} (test : X → Bool) (xs : List X) → length (without_last test xs) ≤ length xs
length_cut test xs =
    let c = cut test xs in
    omega (arith, ap length c.parts, length-append (without_last test xs) c.back)

-- carried columns

-- a text that fits into so many columns, and does not end in a blank
pub record IsCarried (utf8 : Bool) (width : ℕ) (bytes : List ℕ) : Type 0 where
  pub front : starts utf8 bytes ≡ true
  pub few : length (columns utf8 bytes) ≤ width
  pub cut : trimmed bytes ≡ bytes
  pub inside : list_all is_inside bytes ≡ true

starts_front : (utf8 : Bool) (xs ys : List ℕ) → starts utf8 (xs ++ ys) ≡ true → starts utf8 xs ≡ true
starts_front utf8 [] ys h = refl
starts_front utf8 (x ∷ xs) ys h = h

joined_parts : (n : ℕ) (cols : List (List ℕ)) → joined cols ≡ joined (take n cols) ++ joined (drop n cols)
joined_parts n cols = ap joined (sym (take-append-drop n cols)) ∙ joined-append (take n cols) (drop n cols)

pub all_take : (test : ℕ → Bool) (n : ℕ) (cols : List (List ℕ)) → list_all test (joined cols) ≡ true → list_all test (joined (take n cols)) ≡ true
all_take test n cols h = all_front test (joined (take n cols)) (joined (drop n cols)) (rw (← joined_parts n cols) h)

pub all_drop : (test : ℕ → Bool) (n : ℕ) (cols : List (List ℕ)) → list_all test (joined cols) ≡ true → list_all test (joined (drop n cols)) ≡ true
all_drop test n cols h = all_back test (joined (take n cols)) (joined (drop n cols)) (rw (← joined_parts n cols) h)

-- the columns of a line from the second on, trimmed
pub carried_is : (utf8 : Bool) (line : List ℕ) (at width : ℕ) → list_all is_inside line ≡ true
    → IsCarried utf8 width (trimmed (joined (take width (drop (1 + at) (columns utf8 line)))))
carried_is utf8 line at width inside =
    let cols = columns utf8 line in
    let part = take width (drop (1 + at) cols) in
    let whole = joined part in
    let c = cut (λ b. b == 32) whole in
    let are : AreColumns utf8 part =
    AreColumns-take utf8 width (drop (1 + at) cols) (subst (AreColumns utf8) (drop-drop at 1 cols) (AreColumns-drop utf8 at (drop 1 cols) (columns-are utf8 line))) in
    let kept = trimmed whole in
    let fewer : length (columns utf8 kept) ≤ length (columns utf8 (kept ++ c.back)) = columns-fewer utf8 kept c.back in
    let size : length (columns utf8 (kept ++ c.back)) ≡ length part =
    ap (λ (bs : List ℕ). length (columns utf8 bs)) (sym c.parts) ∙ ap (λ (cs : List (List ℕ)). length cs) (columns-joined utf8 part are) in
    record {
      front = starts_front utf8 kept c.back (rw (← c.parts) (starts-joined utf8 part are));
      few = omega (arith, length-take width (drop (1 + at) cols));
      cut = without_last-twice (λ b. b == 32) whole;
      inside = all_cut (λ b. b == 32) is_inside whole
          (all_take is_inside width (drop (1 + at) cols) (all_drop is_inside (1 + at) cols (rw (joined-columns utf8 line) inside)));
    }

-- such a text, filled with blanks
pub record IsFilled (utf8 : Bool) (width : ℕ) (bytes : List ℕ) : Type 0 where
  pub size : length (columns utf8 (left_in utf8 width bytes)) ≡ width
  pub front : starts utf8 (left_in utf8 width bytes) ≡ true
  pub read : trimmed (left_in utf8 width bytes) ≡ bytes
  pub inside : list_all is_inside (left_in utf8 width bytes) ≡ true
  pub same : is_utf8 (left_in utf8 width bytes) ≡ is_utf8 bytes

all_blank : (n : ℕ) → is_blank (blanks n) ≡ true
all_blank zero = refl
all_blank (suc n) = all_blank n

plain_inside : (b : ℕ) → is_plain b ≡ true → is_inside b ≡ true
plain_inside b h = grind (arith, nat_tests)

pub inside-plain : (bytes : List ℕ) → list_all is_plain bytes ≡ true → list_all is_inside bytes ≡ true
inside-plain [] h = refl
inside-plain (b ∷ rest) h =
    let both = and_parts (is_plain b) (list_all is_plain rest) h in
    and_from (is_inside b) (list_all is_inside rest) (plain_inside b both.0) (inside-plain rest both.1)

pub filled : (utf8 : Bool) (width : ℕ) (bytes : List ℕ) → IsCarried utf8 width bytes → IsFilled utf8 width bytes
filled utf8 width bytes c =
    let n = width - length (columns utf8 bytes) in
    let ascii = ascii-plain (blanks n) (plain-blanks n) in
    let front = starts-ascii utf8 (blanks n) ascii in
    let cols : columns utf8 (bytes ++ blanks n) ≡ columns utf8 bytes ++ each (blanks n) =
    columns-append utf8 bytes (blanks n) front ∙ ap (λ (cs : List (List ℕ)). columns utf8 bytes ++ cs) (columns-ascii utf8 (blanks n) ascii) in
    let count : length (columns utf8 (bytes ++ blanks n)) ≡ length (columns utf8 bytes) + n =
    ap (λ (cs : List (List ℕ)). length cs) cols ∙ length-append (columns utf8 bytes) (each (blanks n))
    ∙ ap (λ k. length (columns utf8 bytes) + k) (length-each (blanks n) ∙ length-replicate {A = ℕ} n 32) in
    let few : length (columns utf8 bytes) ≤ width = c.few in
    record {
      size = omega (arith, count);
      front = starts-append utf8 bytes (blanks n) c.front front;
      read = without_last-append (λ b. b == 32) bytes (blanks n) (all_blank n) ∙ c.cut;
      inside = list_all-append is_inside bytes (blanks n) c.inside (inside-plain (blanks n) (plain-blanks n));
      same = utf8_front bytes (blanks n) ascii;
    }

-- the points field

abbrev pub are_small : Option ℕ → Type 0
are_small None = Unit {0}
are_small (Some points) = points < 200

pub record IsPointsField (points : Option ℕ) : Type 0 where
  pub read : points_in (words (points_field points)) ≡ Some points
  pub plain : list_all is_plain (points_field points) ≡ true
  pub four : length (points_field points) ≡ 4

pub points_field_is : (points : Option ℕ) → are_small points → IsPointsField points
points_field_is None h = record { read = refl; plain = refl; four = refl }
points_field_is (Some points) h =
    let p = points_are points h in
    record { read = p.read; plain = p.plain; four = p.four }

digit_ascii : (b : ℕ) → is_ascii_digit b ≡ true → is_ascii b ≡ true
digit_ascii b h = grind (arith, nat_tests)

point_ascii : (b : ℕ) → ((b == 46) || (b == 44)) ≡ true → is_ascii b ≡ true
point_ascii b h = grind (arith, nat_tests)

half_ascii : (whole : ℕ) (rest : List ℕ) (points : ℕ) → half_after whole rest ≡ Some points → list_all is_ascii rest ≡ true
half_ascii whole [] points e = refl
half_ascii whole (d ∷ []) points e = by (d == 48) (d == 53) refl refl e
  where
    by : (zero_half five : Bool) → (d == 48) ≡ zero_half → (d == 53) ≡ five → cond zero_half (Some (2 * whole)) (cond five (Some (2 * whole + 1)) None) ≡ Some points
        → list_all is_ascii (d ∷ []) ≡ true
    by true five is is' e = let same : d ≡ 48 = eqb-true d 48 is in rw same refl
    by false true is is' e = let same : d ≡ 53 = eqb-true d 53 is' in rw same refl
    by false false is is' e = absurd (none-some points e)
half_ascii whole (d ∷ c ∷ rest) points e = absurd (none-some points e)

points_ascii : (whole : ℕ) (word : List ℕ) (points : ℕ) → points_after whole word ≡ Some points → list_all is_ascii word ≡ true
points_ascii whole [] points e = refl
points_ascii whole (b ∷ rest) points e =
    by (is_ascii_digit b) ((b == 46) || (b == 44)) refl refl e (points_ascii (10 * whole + (b - 48)) rest points)
  where
    by : (digit point : Bool) → is_ascii_digit b ≡ digit → ((b == 46) || (b == 44)) ≡ point
        → cond digit (points_after (10 * whole + (b - 48)) rest) (cond point (half_after whole rest) None) ≡ Some points
        → (points_after (10 * whole + (b - 48)) rest ≡ Some points → list_all is_ascii rest ≡ true) → list_all is_ascii (b ∷ rest) ≡ true
    by true point is is' e again = ascii_both b rest (digit_ascii b is) (again e)
    by false true is is' e again = ascii_both b rest (point_ascii b is') (half_ascii whole rest points e)
    by false false is is' e again = absurd (none-some points e)

points_of-ascii : (word : List ℕ) (points : ℕ) → points_of word ≡ Some points → list_all is_ascii word ≡ true
points_of-ascii word points e = by (nat_le 1 (length word) && nat_le (length word) 4) e
  where
    by : (b : Bool) → cond b (points_after 0 word) None ≡ Some points → list_all is_ascii word ≡ true
    by true e = points_ascii 0 word points e
    by false e = absurd (none-some points e)

points_words : (all : List (List ℕ)) (points : Option ℕ) → points_in all ≡ Some points → list_all (λ word. list_all is_ascii word) all ≡ true
points_words [] points e = refl
points_words (word ∷ []) points e =
    let s = then_some (points_of word) (λ p. Some (Some p)) points e in
    and_from (list_all is_ascii word) true (points_of-ascii word s.0 s.1) refl
points_words (word ∷ word' ∷ all) points e = absurd (none-some points e)

pub ascii-points : (field : List ℕ) (points : Option ℕ) → points_in (words field) ≡ Some points → list_all is_ascii field ≡ true
ascii-points field points e = ascii-words field (points_words (words field) points e)

number_words : (all : List (List ℕ)) (n : ℕ) → number_in all ≡ Some n → (n < 10000) × (list_all (λ word. list_all is_ascii word) all ≡ true)
number_words [] n e = absurd (none-some n e)
number_words (word ∷ []) n e =
    let w = number_is word n e in
    (w.below, and_from (list_all is_ascii word) true (ascii-digits word w.digits) refl)
number_words (word ∷ word' ∷ all) n e = absurd (none-some n e)

pub ascii-number : (field : List ℕ) (n : ℕ) → number_in (words field) ≡ Some n → (n < 10000) × (list_all is_ascii field ≡ true)
ascii-number field n e = let w = number_words (words field) n e in (w.0, ascii-words field w.1)
