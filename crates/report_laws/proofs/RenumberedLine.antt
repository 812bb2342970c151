-- A line with new start ranks: its kind, its words, and what else the reading looks at.
--
-- A line that names start ranks is three letters and numbers; so is the new one, whose numbers are the new ones of those that have one.
-- Every other line stays.
use Rattle.std.proofs.Common.{◌≡◌, inl, inr, ℕ, zero, suc, ◌<◌, Bool, true, false, ◌||◌, ◌==◌, cond, List, [], ◌∷◌, ◌++◌, length, drop, map, Option, Some, None, refl, sym, ap, ◌∙◌, subst, arith}
use Rattle.std.specs.Prelude.{codes}
use Rattle.std.specs.Fmt.{decimal}
use Rattle.std.specs.List.{flat_map, list_all}
use Rattle.std.specs.Option.{option_map_or}
use Rattle.std.specs.Char.{is_ascii_digit, to_ascii_lowercase}
use Rattle.std.proofs.lemmas.Bool.{and_parts, or_cases}
use Rattle.std.proofs.lemmas.Bool.Decides.{nat_tests}
use Rattle.std.proofs.lemmas.Slice.Eq.{bytes_eq-Decides}
use Rattle.trf16_report.specs.Prelude.{columns, joined, text, words, number_of, is_word, words_of, names_start_ranks, number_behind, renumbered_word, renumbered_line}
use Rattle.trf16_report.proofs.FieldLemmas.{words-blank}
use Rattle.trf16_laws.proofs.WrittenNumbers.{digits-decimal, length-decimal}
use Rattle.trf16_report.proofs.WrittenColumns.{is_plain, each, joined-each, starts-ascii, columns-append, columns-ascii, ascii-plain}
use Rattle.trf16_laws.proofs.WrittenCells.{list_all-append, plain-digits}

-- ---- numbers behind blanks

digit_not_blank : (b : ℕ) → is_ascii_digit b ≡ true → (b == 32) ≡ false
digit_not_blank b h = grind (arith, nat_tests)

-- nothing, or something that begins with a blank
abbrev begins_blank : List ℕ → Type 0
begins_blank [] = Unit {0}
begins_blank (b ∷ rest) = b ≡ 32

-- digits in front of a blank are the first word
words_front : (digits rest : List ℕ) → list_all is_ascii_digit digits ≡ true → 0 < length digits → begins_blank rest → words (digits ++ rest) ≡ digits ∷ words rest
words_front [] rest h some blank = absurd (omega arith)
words_front (b ∷ []) [] h some blank = rw (digit_not_blank b (and_parts (is_ascii_digit b) true h).0) refl
words_front (b ∷ []) (c ∷ rest) h some blank =
    subst (λ d. words (b ∷ d ∷ rest) ≡ (b ∷ []) ∷ words (d ∷ rest)) (sym blank)
    (rw (digit_not_blank b (and_parts (is_ascii_digit b) true h).0, words-blank rest) refl)
words_front (b ∷ c ∷ digits) rest h some blank =
    let first = and_parts (is_ascii_digit b) (list_all is_ascii_digit (c ∷ digits)) h in
    let second = and_parts (is_ascii_digit c) (list_all is_ascii_digit digits) first.1 in
    let others : words (c ∷ (digits ++ rest)) ≡ (c ∷ digits) ∷ words rest = words_front (c ∷ digits) rest first.1 (omega arith) blank in
    rw (digit_not_blank b first.0, digit_not_blank c second.0, others) refl

-- the word that a number is; none of 0
abbrev pub word_for : ℕ → List (List ℕ)
word_for zero = []
word_for (suc n) = decimal (suc n) ∷ []

abbrev pub new_words : (ℕ → ℕ) → List ℕ → List (List ℕ)
new_words new word = option_map_or (λ n. word_for (new n)) (number_of word) []

module _ (new : ℕ → ℕ) (small : (n : ℕ) → new n < 10000) where
  abbrev tail_of : List (List ℕ) → List ℕ
  tail_of ws = flat_map (renumbered_word new) ws

  tail_blank_at : (n : ℕ) (rest : List ℕ) → begins_blank rest → begins_blank (number_behind n ++ rest)
  tail_blank_at zero rest blank = blank
  tail_blank_at (suc n) rest blank = refl

  tail_blank : (ws : List (List ℕ)) → begins_blank (tail_of ws)
  tail_blank [] = tt
  tail_blank (w ∷ ws) = by (number_of w) (tail_blank ws)
    where
      by : (o : Option ℕ) → begins_blank (tail_of ws) → begins_blank (option_map_or (λ n. number_behind (new n)) o [] ++ tail_of ws)
      by None later = later
      by (Some n) later = tail_blank_at (new n) (tail_of ws) later

  words_at : (n : ℕ) (rest : List ℕ) → n < 10000 → begins_blank rest → words (number_behind n ++ rest) ≡ word_for n ++ words rest
  words_at zero rest lt blank = refl
  words_at (suc n) rest lt blank =
      words-blank (decimal (suc n) ++ rest) ∙ words_front (decimal (suc n)) rest (digits-decimal (suc n) lt) (length-decimal (suc n) lt).0 blank

  pub words_tail : (ws : List (List ℕ)) → words (tail_of ws) ≡ flat_map (new_words new) ws
  words_tail [] = refl
  words_tail (w ∷ ws) = by (number_of w) (words_tail ws)
    where
      by : (o : Option ℕ) → words (tail_of ws) ≡ flat_map (new_words new) ws
          → words (option_map_or (λ n. number_behind (new n)) o [] ++ tail_of ws) ≡ option_map_or (λ n. word_for (new n)) o [] ++ flat_map (new_words new) ws
      by None later = later
      by (Some n) later = words_at (new n) (tail_of ws) (small n) (tail_blank ws) ∙ ap (λ (all : List (List ℕ)). word_for (new n) ++ all) later

  plain_behind : (n : ℕ) → n < 10000 → list_all is_plain (number_behind n) ≡ true
  plain_behind zero lt = refl
  plain_behind (suc n) lt = plain-digits (decimal (suc n)) (digits-decimal (suc n) lt)

  pub plain_tail : (ws : List (List ℕ)) → list_all is_plain (tail_of ws) ≡ true
  plain_tail [] = refl
  plain_tail (w ∷ ws) = list_all-append is_plain (renumbered_word new w) (tail_of ws) (by (number_of w)) (plain_tail ws)
    where
      by : (o : Option ℕ) → list_all is_plain (option_map_or (λ n. number_behind (new n)) o []) ≡ true
      by None = refl
      by (Some n) = plain_behind (new n) (small n)

  -- ---- the kind

  -- three letters
  record IsKind (kind : List ℕ) : Type 0 where
    a : ℕ
    b : ℕ
    c : ℕ
    shape : kind ≡ a ∷ b ∷ c ∷ []
    plain : list_all is_plain kind ≡ true
    letter : ((a == 88) || (a == 120)) ≡ true

  letter_x : (b : ℕ) → to_ascii_lowercase b ≡ 120 → ((b == 88) || (b == 120)) ≡ true
  letter_x b e = grind (arith, nat_tests)

  plain_x : (b : ℕ) → to_ascii_lowercase b ≡ 120 → is_plain b ≡ true
  plain_x b e = grind (arith, nat_tests)

  plain_z : (b : ℕ) → to_ascii_lowercase b ≡ 122 → is_plain b ≡ true
  plain_z b e = grind (arith, nat_tests)

  plain_p : (b : ℕ) → to_ascii_lowercase b ≡ 112 → is_plain b ≡ true
  plain_p b e = grind (arith, nat_tests)

  three : (kind : List ℕ) (x y z : ℕ) → map to_ascii_lowercase kind ≡ x ∷ y ∷ z ∷ []
      → (a : ℕ) × (b : ℕ) × (c : ℕ) × (kind ≡ a ∷ b ∷ c ∷ []) × (to_ascii_lowercase a ≡ x) × (to_ascii_lowercase b ≡ y) × (to_ascii_lowercase c ≡ z)
  three [] x y z e = absurd (cc)
  three (a ∷ []) x y z e = absurd (cc)
  three (a ∷ b ∷ []) x y z e = absurd (cc)
  three (a ∷ b ∷ c ∷ []) x y z e = (a, b, c, refl, cc, cc, cc)
  three (a ∷ b ∷ c ∷ d ∷ rest) x y z e = absurd (cc)

  kind_by : (kind : List ℕ) (z : ℕ) → ((c : ℕ) → to_ascii_lowercase c ≡ z → is_plain c ≡ true) → map to_ascii_lowercase kind ≡ 120 ∷ 120 ∷ z ∷ [] → IsKind kind
  kind_by kind z last e =
      let t = three kind 120 120 z e in
      record {
        a = t.0;
        b = t.1;
        c = t.2;
        shape = t.3;
        plain = rw (t.3, plain_x t.0 t.4, plain_x t.1 t.5, last t.2 t.6) refl;
        letter = letter_x t.0 t.4;
      }

  kind_is : (kind : List ℕ) → (is_word kind (codes "XXZ") || is_word kind (codes "XXP")) ≡ true → IsKind kind
  kind_is kind h = elim (or_cases (is_word kind (codes "XXZ")) (is_word kind (codes "XXP")) h) [
    | inl is ↦ kind_by kind 122 plain_z ((bytes_eq-Decides (map to_ascii_lowercase kind) (map to_ascii_lowercase (codes "XXZ"))).0 is)
    | inr is ↦ kind_by kind 112 plain_p ((bytes_eq-Decides (map to_ascii_lowercase kind) (map to_ascii_lowercase (codes "XXP"))).0 is)
  ]

  -- ---- the line

  module _ (utf8 : Bool) (line : List ℕ) where
    abbrev cols : List (List ℕ)
    cols = columns utf8 line

    abbrev kind : List ℕ
    kind = text cols 1 3

    abbrev tail : List ℕ
    tail = tail_of (words_of cols)

    each_three : (ks ts : List ℕ) → IsKind ks → (text (each ks ++ each ts) 1 3 ≡ ks) × (joined (drop 3 (each ks ++ each ts)) ≡ ts)
    unfolding each
    each_three ks ts k = rw k.shape (refl, joined-each ts)

    -- what the line becomes, if it names start ranks
    record IsNamed (made : List ℕ) : Type 0 where
      kind_is : text (columns utf8 made) 1 3 ≡ kind
      words_are : words_of (columns utf8 made) ≡ flat_map (new_words new) (words_of cols)
      plain : list_all is_plain made ≡ true
      x : ℕ
      y : ℕ
      z : ℕ
      rest : List ℕ
      shape : made ≡ x ∷ y ∷ z ∷ rest
      letter : ((x == 88) || (x == 120)) ≡ true

    named : names_start_ranks cols ≡ true → IsNamed (kind ++ tail)
    named h =
        let k = kind_is kind h in
        let plain-T = plain_tail (words_of cols) in
        let ascii-K = ascii-plain kind k.plain in
        let ascii-T = ascii-plain tail plain-T in
        let made : columns utf8 (kind ++ tail) ≡ each kind ++ each tail =
        columns-append utf8 kind tail (starts-ascii utf8 tail ascii-T) ∙ rw (columns-ascii utf8 kind ascii-K, columns-ascii utf8 tail ascii-T) refl in
        let parts = each_three kind tail k in
        record {
          kind_is = ap (λ (cs : List (List ℕ)). text cs 1 3) made ∙ parts.0;
          words_are = ap words_of made ∙ ap words parts.1 ∙ words_tail (words_of cols);
          plain = list_all-append is_plain kind tail k.plain plain-T;
          x = k.a;
          y = k.b;
          z = k.c;
          rest = tail;
          shape = ap (λ (bs : List ℕ). bs ++ tail) k.shape;
          letter = k.letter;
        }

    by_kind : (names : Bool) → names_start_ranks cols ≡ names → text (columns utf8 (cond names (kind ++ tail) line)) 1 3 ≡ kind
    by_kind true e = (named e).kind_is
    by_kind false e = refl

    -- the kind stays
    pub kind_same : text (columns utf8 (renumbered_line utf8 new line)) 1 3 ≡ text (columns utf8 line) 1 3
    kind_same = by_kind (names_start_ranks cols) refl

    made_is : names_start_ranks cols ≡ true → renumbered_line utf8 new line ≡ kind ++ tail
    made_is h = rw h refl

    -- the words of a line that names start ranks are the new numbers
    pub words_named : names_start_ranks cols ≡ true → words_of (columns utf8 (renumbered_line utf8 new line)) ≡ flat_map (new_words new) (words_of cols)
    words_named h = ap (λ (bs : List ℕ). words_of (columns utf8 bs)) (made_is h) ∙ (named h).words_are
