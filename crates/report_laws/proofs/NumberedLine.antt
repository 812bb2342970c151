-- A line that names start ranks, with new numbers: it reads on to the same report, and is ASCII as the line was.
--
-- Such a line is three letters and start ranks. So is the new one, whose numbers are those that the map gives, each behind a blank. Every
-- other line stays.
use Rattle.std.proofs.Common.{◌≡◌, ◌⊎◌, ℕ, zero, suc, ◌<◌, Bool, true, false, ◌||◌, ◌==◌, nat_lt, cond, List, [], ◌∷◌, ◌++◌, length, drop, map, refl, sym, ap, ◌∙◌, subst, inl, inr, Option, Some, None, Result, Ok, Err, arith}
use Rattle.std.specs.Prelude.{codes}
use Rattle.std.specs.Fmt.{decimal}
use Rattle.std.specs.List.{flat_map, list_all}
use Rattle.std.specs.Option.{option_map_or}
use Rattle.std.specs.Char.{is_ascii, is_ascii_digit, to_ascii_lowercase}
use Rattle.std.specs.Str.{is_utf8, bytes_eq}
use Rattle.std.proofs.lemmas.Bool.{and_parts, or_cases, lt-ltb, true≢false, false_from_ne_true}
use Rattle.std.proofs.lemmas.Bool.Decides.{nat_tests}
use Rattle.std.proofs.lemmas.List.{append-nil}
use Rattle.std.proofs.lemmas.Slice.Eq.{bytes_eq-Decides}
use Rattle.trf16_report.specs.Prelude.{columns, joined, text, words, words_of, number_of, is_kind, is_word, are_start_ranks, Sheet, lines, is_player, start_ranks_onto, line_onto, names_start_ranks, number_behind, renumbered_word, renumbered_line}
use Rattle.trf16_report.specs.declared.fault.Fault.{Fault}
use Rattle.trf16_report.specs.declared.fault.Fault.TheVariants.{BadExtension}
use Rattle.trf16_report.proofs.AnsweringLemmas.{not_of_kind}
use Rattle.trf16_report.proofs.FieldLemmas.{words-blank}
use Rattle.trf16_report.proofs.StepLemmas.{same_ok}
use Rattle.trf16_laws.proofs.WrittenCells.{list_all-append, plain-digits}
use Rattle.trf16_report.proofs.WrittenColumns.{is_plain, each, joined-each, columns-ascii, ascii-plain}
use Rattle.trf16_laws.proofs.WrittenFields.{inside-plain}
use Rattle.trf16_laws.proofs.WrittenNumbers.{words-digits, digits-decimal, length-decimal, number_of-decimal}
use Rattle.trf16_laws.proofs.WrittenText.{is_inside, has_mark, line-no_mark, utf8_ascii}
use Rattle.report_laws.proofs.BackLines.{ascii_line}

-- ---- numbers behind blanks

digit_not_blank : (b : ℕ) → is_ascii_digit b ≡ true → (b == 32) ≡ false
digit_not_blank b h = grind (arith, nat_tests)

-- digits in front of a blank are the first word
words-front : (digits rest : List ℕ) → list_all is_ascii_digit digits ≡ true → 0 < length digits → words (digits ++ 32 ∷ rest) ≡ digits ∷ words rest
words-front [] rest h some = absurd (omega arith)
words-front (b ∷ []) rest h some = rw (digit_not_blank b (and_parts (is_ascii_digit b) true h).0) refl
words-front (b ∷ c ∷ digits) rest h some =
    let first = and_parts (is_ascii_digit b) (list_all is_ascii_digit (c ∷ digits)) h in
    let second = and_parts (is_ascii_digit c) (list_all is_ascii_digit digits) first.1 in
    let others : words (c ∷ (digits ++ 32 ∷ rest)) ≡ (c ∷ digits) ∷ words rest = words-front (c ∷ digits) rest first.1 (omega arith) in
    rw (digit_not_blank b first.0, digit_not_blank c second.0, others) refl

module _ (new : ℕ → ℕ) (small : (n : ℕ) → new n < 10000) where
  -- the new numbers of some words
  abbrev numbers_of : List (List ℕ) → List ℕ
  numbers_of all = flat_map (renumbered_word new) all

  is_rank : (n : ℕ) → suc n < 10000 → option_map_or (λ k. nat_lt 0 k) (number_of (decimal (suc n))) false ≡ true
  is_rank n lt = rw (number_of-decimal (suc n) lt) (lt-ltb 0 (suc n) (omega arith))

  ranks_behind : (n : ℕ) (all : List (List ℕ)) → suc n < 10000 → are_start_ranks (words (decimal (suc n) ++ numbers_of all)) ≡ true
  ranks_behind n [] lt =
      rw (append-nil (decimal (suc n)), words-digits (decimal (suc n)) (digits-decimal (suc n) lt) (length-decimal (suc n) lt).0, is_rank n lt) refl
  ranks_behind n (word ∷ all) lt = by (number_of word) (ranks_behind n all lt) (λ k lt'. ranks_behind k all lt')
    where
      at : (k : ℕ) → k < 10000 → are_start_ranks (words (decimal (suc n) ++ numbers_of all)) ≡ true
          → ((k : ℕ) → suc k < 10000 → are_start_ranks (words (decimal (suc k) ++ numbers_of all)) ≡ true)
          → are_start_ranks (words (decimal (suc n) ++ (number_behind k ++ numbers_of all))) ≡ true
      at zero lt' later others = later
      at (suc k) lt' later others =
          rw (
            words-front (decimal (suc n)) (decimal (suc k) ++ numbers_of all) (digits-decimal (suc n) lt) (length-decimal (suc n) lt).0,
            is_rank n lt,
          ) (others k lt')

      by : (o : Option ℕ) → are_start_ranks (words (decimal (suc n) ++ numbers_of all)) ≡ true
          → ((k : ℕ) → suc k < 10000 → are_start_ranks (words (decimal (suc k) ++ numbers_of all)) ≡ true)
          → are_start_ranks (words (decimal (suc n) ++ (option_map_or (λ k. number_behind (new k)) o [] ++ numbers_of all))) ≡ true
      by None later others = later
      by (Some k) later others = at (new k) (small k) later others

  are_ranks : (all : List (List ℕ)) → are_start_ranks (words (numbers_of all)) ≡ true
  are_ranks [] = refl
  are_ranks (word ∷ all) = by (number_of word) (are_ranks all)
    where
      at : (k : ℕ) → k < 10000 → are_start_ranks (words (numbers_of all)) ≡ true → are_start_ranks (words (number_behind k ++ numbers_of all)) ≡ true
      at zero lt later = later
      at (suc k) lt later = ap are_start_ranks (words-blank (decimal (suc k) ++ numbers_of all)) ∙ ranks_behind k all lt

      by : (o : Option ℕ) → are_start_ranks (words (numbers_of all)) ≡ true
          → are_start_ranks (words (option_map_or (λ k. number_behind (new k)) o [] ++ numbers_of all)) ≡ true
      by None later = later
      by (Some k) later = at (new k) (small k) later

  plain_numbers : (all : List (List ℕ)) → list_all is_plain (numbers_of all) ≡ true
  plain_numbers [] = refl
  plain_numbers (word ∷ all) = list_all-append is_plain (renumbered_word new word) (numbers_of all) (by (number_of word)) (plain_numbers all)
    where
      at : (k : ℕ) → k < 10000 → list_all is_plain (number_behind k) ≡ true
      at zero lt = refl
      at (suc k) lt = plain-digits (decimal (suc k)) (digits-decimal (suc k) lt)

      by : (o : Option ℕ) → list_all is_plain (option_map_or (λ k. number_behind (new k)) o []) ≡ true
      by None = refl
      by (Some k) = at (new k) (small k)

-- ---- the kind

-- three letters
record AreLetters (kind : List ℕ) : Type 0 where
  a : ℕ
  b : ℕ
  c : ℕ
  shape : kind ≡ a ∷ b ∷ c ∷ []
  plain : list_all is_plain (a ∷ b ∷ c ∷ []) ≡ true

letter : (b z : ℕ) → ((z ≡ 120) ⊎ (z ≡ 122)) ⊎ (z ≡ 112) → to_ascii_lowercase b ≡ z → is_plain b ≡ true
letter b z (inl (inl is)) e = grind (arith, nat_tests)
letter b z (inl (inr is)) e = grind (arith, nat_tests)
letter b z (inr is) e = grind (arith, nat_tests)

letters_by : (kind : List ℕ) (z : ℕ) → ((z ≡ 120) ⊎ (z ≡ 122)) ⊎ (z ≡ 112) → map to_ascii_lowercase kind ≡ 120 ∷ 120 ∷ z ∷ [] → AreLetters kind
letters_by [] z one e = absurd (cc)
letters_by (a ∷ []) z one e = absurd (cc)
letters_by (a ∷ b ∷ []) z one e = absurd (cc)
letters_by (a ∷ b ∷ c ∷ d ∷ rest) z one e = absurd (cc)
letters_by (a ∷ b ∷ c ∷ []) z one e = record {
  a = a;
  b = b;
  c = c;
  shape = refl;
  plain = rw (letter a 120 (inl (inl refl)) (cc), letter b 120 (inl (inl refl)) (cc), letter c z one (cc)) refl;
}

-- a word is spelled so, but for the case of its letters
spelled : (word capitals : List ℕ) → is_word word capitals ≡ true → map to_ascii_lowercase word ≡ map to_ascii_lowercase capitals
spelled word capitals is = (bytes_eq-Decides (map to_ascii_lowercase word) (map to_ascii_lowercase capitals)).0 is

letters : (kind : List ℕ) → (is_word kind (codes "XXZ") || is_word kind (codes "XXP")) ≡ true → AreLetters kind
letters kind is = elim (or_cases (is_word kind (codes "XXZ")) (is_word kind (codes "XXP")) is) [
  | inl z ↦ letters_by kind 122 (inl (inr refl)) (spelled kind (codes "XXZ") z)
  | inr p ↦ letters_by kind 112 (inr refl) (spelled kind (codes "XXP") p)
]

-- a line that names start ranks is of no other kind
no_other : (line : List (List ℕ)) (capitals : List ℕ) → is_word (codes "XXZ") capitals ≡ false → is_word (codes "XXP") capitals ≡ false
    → names_start_ranks line ≡ true → is_kind capitals line ≡ false
no_other line capitals not_z not_p is = elim (or_cases (is_kind (codes "XXZ") line) (is_kind (codes "XXP") line) is) [
  | inl z ↦ ap (λ (word : List ℕ). bytes_eq word (map to_ascii_lowercase capitals)) (spelled (text line 1 3) (codes "XXZ") z) ∙ not_z
  | inr p ↦ ap (λ (word : List ℕ). bytes_eq word (map to_ascii_lowercase capitals)) (spelled (text line 1 3) (codes "XXP") p) ∙ not_p
]

not_player : (line : List (List ℕ)) → names_start_ranks line ≡ true → is_player line ≡ false
not_player line is =
    false_from_ne_true (is_player line) (λ player.
    let none : names_start_ranks line ≡ false = rw (not_of_kind line (codes "XXZ") refl player, not_of_kind line (codes "XXP") refl player) refl in
    true≢false (sym is ∙ none))

-- such a line is read for its start ranks alone
only_ranks : (sheet : Sheet) (n : ℕ) (line : List (List ℕ)) → names_start_ranks line ≡ true → line_onto sheet n line ≡ start_ranks_onto sheet n line
unfolding line_onto
only_ranks sheet n line is =
    rw (not_player line is, no_other line (codes "XXR") refl refl is, no_other line (codes "XXC") refl refl is, is) refl

-- what is read of it: start ranks, and nothing is added
record IsPassed (sheet next : Sheet) (line : List (List ℕ)) : Type 0 where
  same : sheet ≡ next
  ranks : are_start_ranks (words_of line) ≡ true

passed : (sheet next : Sheet) (n : ℕ) (line : List (List ℕ)) → names_start_ranks line ≡ true → line_onto sheet n line ≡ Ok next → IsPassed sheet next line
unfolding start_ranks_onto
passed sheet next n line is e = by (are_start_ranks (words_of line)) refl (sym (only_ranks sheet n line is) ∙ e)
  where
    by : (b : Bool) → are_start_ranks (words_of line) ≡ b → ◌≡◌ {A = Result Sheet Fault} (cond b (Ok sheet) (Err (BadExtension n))) (Ok next) → IsPassed sheet next line
    by true ranks e = record { same = same_ok sheet next e; ranks = ranks }
    by false ranks e = absurd (cc)

passes : (sheet : Sheet) (n : ℕ) (line : List (List ℕ)) → names_start_ranks line ≡ true → are_start_ranks (words_of line) ≡ true → line_onto sheet n line ≡ Ok sheet
unfolding start_ranks_onto
passes sheet n line is ranks = only_ranks sheet n line is ∙ rw ranks refl

-- ---- the line

not_mark : (b : ℕ) → is_plain b ≡ true → (b == 239) ≡ false
not_mark b h = grind (arith, nat_tests)

-- three letters and plain text behind them
record IsSpelled (utf8 : Bool) (kind tail made : List ℕ) : Type 0 where
  kind_is : text (columns utf8 made) 1 3 ≡ kind
  words_are : words_of (columns utf8 made) ≡ words tail
  plain : list_all is_plain made ≡ true
  unmarked : (rest : List ℕ) → has_mark (made ++ rest) ≡ false

each_are : (a b c : ℕ) (tail : List ℕ) → (text (each (a ∷ b ∷ c ∷ tail)) 1 3 ≡ a ∷ b ∷ c ∷ []) × (joined (drop 3 (each (a ∷ b ∷ c ∷ tail))) ≡ tail)
unfolding each
each_are a b c tail = (refl, joined-each tail)

spells : (utf8 : Bool) (a b c : ℕ) (tail : List ℕ) → list_all is_plain (a ∷ b ∷ c ∷ []) ≡ true → list_all is_plain tail ≡ true
    → IsSpelled utf8 (a ∷ b ∷ c ∷ []) tail (a ∷ b ∷ c ∷ tail)
spells utf8 a b c tail front back =
    let plain : list_all is_plain (a ∷ b ∷ c ∷ tail) ≡ true = list_all-append is_plain (a ∷ b ∷ c ∷ []) tail front back in
    let made : columns utf8 (a ∷ b ∷ c ∷ tail) ≡ each (a ∷ b ∷ c ∷ tail) = columns-ascii utf8 (a ∷ b ∷ c ∷ tail) (ascii-plain (a ∷ b ∷ c ∷ tail) plain) in
    let parts = each_are a b c tail in
    let first : (a == 239) ≡ false = not_mark a (and_parts (is_plain a) (list_all is_plain (b ∷ c ∷ [])) front).0 in
    record {
      kind_is = ap (λ (cols : List (List ℕ)). text cols 1 3) made ∙ parts.0;
      words_are = ap words_of made ∙ ap words parts.1;
      plain = plain;
      unmarked = λ rest. rw first refl;
    }

module _ (new : ℕ → ℕ) (small : (n : ℕ) → new n < 10000) (utf8 : Bool) (line : List ℕ) where
  abbrev cols : List (List ℕ)
  cols = columns utf8 line

  abbrev made : List ℕ
  made = text cols 1 3 ++ flat_map (renumbered_word new) (words_of cols)

  named : names_start_ranks cols ≡ true → IsSpelled utf8 (text cols 1 3) (flat_map (renumbered_word new) (words_of cols)) made
  named is =
      let k = letters (text cols 1 3) is in
      subst (λ (kind : List ℕ). IsSpelled utf8 kind (flat_map (renumbered_word new) (words_of cols)) (kind ++ flat_map (renumbered_word new) (words_of cols))) (sym k.shape)
      (spells utf8 k.a k.b k.c (flat_map (renumbered_word new) (words_of cols)) k.plain (plain_numbers new small (words_of cols)))

  -- the kind of a line stays
  pub same_kind : (capitals : List ℕ) → is_kind capitals (columns utf8 (renumbered_line utf8 new line)) ≡ is_kind capitals cols
  same_kind capitals = by (names_start_ranks cols) refl
    where
      by : (b : Bool) → names_start_ranks cols ≡ b → is_kind capitals (columns utf8 (cond b made line)) ≡ is_kind capitals cols
      by true is = ap (λ (kind : List ℕ). is_word kind capitals) (named is).kind_is
      by false is = refl

  -- a line that was read and is no player's reads on to the same report
  pub record IsRead (sheet next : Sheet) (n : ℕ) (again : List ℕ) : Type 0 where
    pub read : line_onto sheet n (columns utf8 again) ≡ Ok next
    pub other : is_player (columns utf8 again) ≡ false
    pub inside : list_all is_inside again ≡ true
    pub same : is_utf8 again ≡ is_utf8 line
    pub unmarked : (bytes : List ℕ) (others : List (List ℕ)) (rest : List ℕ) → lines bytes ≡ line ∷ others → has_mark bytes ≡ false → has_mark (again ++ 10 ∷ rest) ≡ false

  pub is_read : (sheet next : Sheet) (n : ℕ) → is_player cols ≡ false → list_all is_inside line ≡ true → line_onto sheet n cols ≡ Ok next → IsRead sheet next n (renumbered_line utf8 new line)
  is_read sheet next n other inside e = by (names_start_ranks cols) refl
    where
      by : (b : Bool) → names_start_ranks cols ≡ b → IsRead sheet next n (cond b made line)
      by false is = record { read = e; other = other; inside = inside; same = refl; unmarked = λ bytes others rest first none. line-no_mark bytes line others rest first none }
      by true is =
          let s = named is in
          let was = passed sheet next n cols is e in
          let names : names_start_ranks (columns utf8 made) ≡ true = ap (λ (kind : List ℕ). is_word kind (codes "XXZ") || is_word kind (codes "XXP")) s.kind_is ∙ is in
          let ranks : are_start_ranks (words_of (columns utf8 made)) ≡ true = ap are_start_ranks s.words_are ∙ are_ranks new small (words_of cols) in
          let k = letters (text cols 1 3) is in
          let front : list_all is_ascii (text cols 1 3) ≡ true = ap (λ (kind : List ℕ). list_all is_ascii kind) k.shape ∙ ascii-plain (k.a ∷ k.b ∷ k.c ∷ []) k.plain in
          record {
            read = passes sheet n (columns utf8 made) names ranks ∙ ap (λ (s : Sheet). Ok s) was.same;
            other = not_player (columns utf8 made) names;
            inside = inside-plain made s.plain;
            same = utf8_ascii made (ascii-plain made s.plain) ∙ sym (utf8_ascii line (ascii_line utf8 line front was.ranks));
            unmarked = λ bytes others rest first none. s.unmarked (10 ∷ rest);
          }
