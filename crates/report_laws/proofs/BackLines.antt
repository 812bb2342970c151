-- The lines of a report that was read, each line XXZ cut to its kind: they read on to the same report, but for the lines that are carried.
--
-- A line XXZ of a report that was read names start ranks alone, so it is ASCII: cut or not, the text stays what it is, UTF-8 or not, and so
-- do the columns of all other lines. The lines are put together again as a text (`text_of`), which falls into them (`lines-text`).
use Rattle.std.proofs.Common.{◌≡◌, ℕ, ◌+◌, Bool, true, false, ◌&&◌, ◌||◌, nat_lt, cond, List, [], ◌∷◌, ◌++◌, take, drop, map, refl, sym, ap, ◌∙◌, subst, inl, inr, Option, Some, None, Result, Ok, Err, arith, ◌==◌}
use Rattle.std.specs.Prelude.{codes, option_map, is_some}
use Rattle.std.specs.List.{list_all}
use Rattle.std.specs.Option.{ok_or, option_map_or}
use Rattle.std.specs.Char.{is_ascii, to_ascii_lowercase}
use Rattle.std.specs.Str.{is_utf8}
use Rattle.std.proofs.lemmas.Bool.{and_parts, and_from, cases_Bool, true≢false, false_from_ne_true}
use Rattle.std.proofs.lemmas.Bool.Decides.{nat_tests}
use Rattle.std.proofs.lemmas.List.{take-append-drop}
use Rattle.std.proofs.lemmas.List.Folds.{list_all-append}
use Rattle.trf16_report.specs.Prelude.{columns, joined, text, words_of, number_of, is_kind, rounds_in, colour_in, are_start_ranks, Entry, Sheet, with_player, lines, player_at, start_at, is_player, is_too_long, rounds_onto, colour_onto, start_ranks_onto, player_onto, line_onto, lines_onto, carried_line, has_too_many_rounds, line_back}
use Rattle.trf16_report.specs.Outcomes.{◌>>=◌}
use Rattle.trf16_report.specs.declared.cell.Colour.{Colour}
use Rattle.trf16_report.specs.declared.fault.Fault.{Fault}
use Rattle.trf16_report.specs.declared.fault.Fault.TheVariants.{BadExtension, Duplicate}
use Rattle.trf16_report.proofs.AnsweringLemmas.{not_of_kind}
use Rattle.trf16_report.proofs.BackLemmas.{lower_is, alone, no_other, IsOfOthers, test_back}
use Rattle.trf16_report.proofs.ColumnLemmas.{joined-append, joined-columns}
use Rattle.trf16_report.proofs.LineSteps.{line_keeps, line_adds}
use Rattle.trf16_report.proofs.StepLemmas.{same_ok}
use Rattle.trf16_laws.proofs.WrittenCells.{ascii-digits}
use Rattle.trf16_writer.proofs.AcceptedReport.{first_onto}
use Rattle.trf16_laws.proofs.WrittenReport.{onto_from}
use Rattle.trf16_writer.proofs.ReadStarts.{number_is}
use Rattle.trf16_laws.proofs.WrittenRounds.{ascii-words}
use Rattle.trf16_laws.proofs.WrittenText.{is_inside, are_inside, are_utf8, has_mark, lines-line, line-no_mark, utf8_ascii}

-- ---- a report that carries other lines

-- a report with other lines that are carried
abbrev pub carrying : List (Option (List ℕ)) → Sheet → Sheet
carrying carried sheet = record sheet { carried = carried }

-- what a step gives, with these lines carried
abbrev pub all_carrying : List (Option (List ℕ)) → Result Sheet Fault → Result Sheet Fault
all_carrying carried given = given >>= λ next. Ok (carrying carried next)

module _ (carried : List (Option (List ℕ))) (sheet : Sheet) (n : ℕ) (line : List (List ℕ)) where
  same_player : player_at (carrying carried sheet) n line ≡ player_at sheet n line
  unfolding player_at start_at
  same_player = refl

  player-carrying : player_onto (carrying carried sheet) n line ≡ all_carrying carried (player_onto sheet n line)
  unfolding player_onto
  player-carrying =
      ap (λ (r : Result Entry Fault). r >>= λ entry. Ok (with_player (carrying carried sheet) entry)) same_player ∙ by (player_at sheet n line)
    where
      by : (r : Result Entry Fault) → (r >>= λ entry. Ok (with_player (carrying carried sheet) entry)) ≡ all_carrying carried (r >>= λ entry. Ok (with_player sheet entry))
      by (Ok entry) = refl
      by (Err fault) = refl

  rounds-carrying : rounds_onto (carrying carried sheet) n line ≡ all_carrying carried (rounds_onto sheet n line)
  unfolding rounds_onto
  rounds-carrying = by (ok_or (rounds_in (words_of line)) (BadExtension n)) (is_some sheet.total)
    where
      by : (r : Result ℕ Fault) (b : Bool)
          → (r >>= λ rounds. cond b (Err (Duplicate n)) (Ok (record (carrying carried sheet) { total = Some rounds })))
          ≡ all_carrying carried (r >>= λ rounds. cond b (Err (Duplicate n)) (Ok (record sheet { total = Some rounds })))
      by (Ok rounds) true = refl
      by (Ok rounds) false = refl
      by (Err fault) b = refl

  colour-carrying : colour_onto (carrying carried sheet) n line ≡ all_carrying carried (colour_onto sheet n line)
  unfolding colour_onto
  colour-carrying = by (ok_or (colour_in sheet.initial (words_of line)) (BadExtension n))
    where
      by : (r : Result (Option Colour) Fault)
          → (r >>= λ initial. Ok (record (carrying carried sheet) { initial = initial })) ≡ all_carrying carried (r >>= λ initial. Ok (record sheet { initial = initial }))
      by (Ok initial) = refl
      by (Err fault) = refl

  start_ranks-carrying : start_ranks_onto (carrying carried sheet) n line ≡ all_carrying carried (start_ranks_onto sheet n line)
  unfolding start_ranks_onto
  start_ranks-carrying = by (are_start_ranks (words_of line))
    where
      by : (b : Bool) → cond b (Ok (carrying carried sheet)) (Err (BadExtension n)) ≡ all_carrying carried (cond b (Ok sheet) (Err (BadExtension n)))
      by true = refl
      by false = refl

  pub line-carrying : line_onto (carrying carried sheet) n line ≡ all_carrying carried (line_onto sheet n line)
  unfolding line_onto
  line-carrying = by (is_player line) (is_kind (codes "XXR") line) (is_kind (codes "XXC") line) (is_kind (codes "XXZ") line || is_kind (codes "XXP") line)
    where
      by : (p r c z : Bool)
          → cond p (player_onto (carrying carried sheet) n line) (cond r (rounds_onto (carrying carried sheet) n line) (cond c (colour_onto (carrying carried sheet) n line)
          (cond z (start_ranks_onto (carrying carried sheet) n line) (Ok (carrying carried sheet)))))
          ≡ all_carrying carried (cond p (player_onto sheet n line) (cond r (rounds_onto sheet n line) (cond c (colour_onto sheet n line)
          (cond z (start_ranks_onto sheet n line) (Ok sheet)))))
      by true r c z = player-carrying
      by false true c z = rounds-carrying
      by false false true z = colour-carrying
      by false false false true = start_ranks-carrying
      by false false false false = refl

-- ---- a line XXZ

letter : (b : ℕ) → to_ascii_lowercase b ≡ 120 → (is_ascii b ≡ true) × (is_inside b ≡ true) × ((b == 239) ≡ false)
letter b e = (grind (arith, nat_tests), grind (arith, nat_tests), grind (arith, nat_tests))

last_letter : (b : ℕ) → to_ascii_lowercase b ≡ 122 → (is_ascii b ≡ true) × (is_inside b ≡ true)
last_letter b e = (grind (arith, nat_tests), grind (arith, nat_tests))

-- the letters of a kind are ASCII, end no line and begin no byte order mark
record AreLetters (kind : List ℕ) : Type 0 where
  ascii : list_all is_ascii kind ≡ true
  inside : list_all is_inside kind ≡ true
  unmarked : (rest : List ℕ) → has_mark (kind ++ rest) ≡ false

letters : (kind : List ℕ) → map to_ascii_lowercase kind ≡ 120 ∷ 120 ∷ 122 ∷ [] → AreLetters kind
letters [] e = absurd (cc)
letters (a ∷ []) e = absurd (cc)
letters (a ∷ b ∷ []) e = absurd (cc)
letters (a ∷ b ∷ c ∷ d ∷ rest) e = absurd (cc)
letters (a ∷ b ∷ c ∷ []) e =
    let first = letter a (cc) in
    let second = letter b (cc) in
    let third = last_letter c (cc) in
    record {
      ascii = rw (first.0, second.0, third.0) refl;
      inside = rw (first.1, second.1, third.1) refl;
      unmarked = λ rest. rw first.2 refl;
    }

letters_of : (line : List (List ℕ)) → is_kind (codes "XXZ") line ≡ true → AreLetters (text line 1 3)
letters_of line kind = letters (text line 1 3) (lower_is (text line 1 3) kind)

pub not_player : IsOfOthers is_player
not_player line e = false_from_ne_true (is_player line) (λ is. true≢false (sym e ∙ not_of_kind line (codes "XXZ") refl is))

-- what is read of a line XXZ: start ranks, and nothing is added
record IsPassed (sheet next : Sheet) (line : List (List ℕ)) : Type 0 where
  same : sheet ≡ next
  named : are_start_ranks (words_of line) ≡ true

absent_read : (sheet next : Sheet) (n : ℕ) (line : List (List ℕ)) → is_kind (codes "XXZ") line ≡ true → line_onto sheet n line ≡ Ok next → IsPassed sheet next line
unfolding line_onto start_ranks_onto
absent_read sheet next n line kind e =
    by (are_start_ranks (words_of line)) refl
    (rw (not_player line kind, no_other (codes "XXR") line refl kind, no_other (codes "XXC") line refl kind, kind) at e)
  where
    by : (b : Bool) → are_start_ranks (words_of line) ≡ b → ◌≡◌ {A = Result Sheet Fault} (cond b (Ok sheet) (Err (BadExtension n))) (Ok next) → IsPassed sheet next line
    by true is e = record { same = same_ok sheet next e; named = is }
    by false is e = absurd (cc)

bare_read : (sheet : Sheet) (n : ℕ) (line : List (List ℕ)) → is_kind (codes "XXZ") line ≡ true → words_of line ≡ [] → line_onto sheet n line ≡ Ok sheet
unfolding line_onto start_ranks_onto
bare_read sheet n line kind none =
    rw (not_player line kind, no_other (codes "XXR") line refl kind, no_other (codes "XXC") line refl kind, kind, none) refl

ascii_ranks : (all : List (List ℕ)) → are_start_ranks all ≡ true → list_all (λ word. list_all is_ascii word) all ≡ true
ascii_ranks [] are = refl
ascii_ranks (word ∷ rest) are =
    let both = and_parts (option_map_or (λ n. nat_lt 0 n) (number_of word) false) (are_start_ranks rest) are in
    and_from (list_all is_ascii word) (list_all (λ word. list_all is_ascii word) rest) (by (number_of word) refl both.0) (ascii_ranks rest both.1)
  where
    by : (o : Option ℕ) → number_of word ≡ o → option_map_or (λ n. nat_lt 0 n) o false ≡ true → list_all is_ascii word ≡ true
    by None e is = absurd (cc)
    by (Some n) e is = ascii-digits word (number_is word n e).digits

-- a line of ASCII letters that names start ranks is ASCII
pub ascii_line : (utf8 : Bool) (line : List ℕ) → list_all is_ascii (text (columns utf8 line) 1 3) ≡ true → are_start_ranks (words_of (columns utf8 line)) ≡ true → list_all is_ascii line ≡ true
ascii_line utf8 line front named =
    let cols = columns utf8 line in
    let back : list_all is_ascii (joined (drop 3 cols)) ≡ true = ascii-words (joined (drop 3 cols)) (ascii_ranks (words_of cols) named) in
    let parts : joined (take 3 cols) ++ joined (drop 3 cols) ≡ line =
    sym (joined-append (take 3 cols) (drop 3 cols)) ∙ ap joined (take-append-drop 3 cols) ∙ joined-columns utf8 line in
    subst (λ (bytes : List ℕ). list_all is_ascii bytes ≡ true) parts
    (list_all-append is_ascii (joined (take 3 cols)) (joined (drop 3 cols)) ∙ and_from (list_all is_ascii (joined (take 3 cols))) (list_all is_ascii (joined (drop 3 cols))) front back)

-- ---- a line that is cut

-- a line reads as before, and is UTF-8 as before
record IsCutLine (utf8 : Bool) (sheet next : Sheet) (n : ℕ) (line : List ℕ) : Type 0 where
  read : line_onto sheet n (columns utf8 (line_back utf8 line)) ≡ Ok next
  same : is_utf8 (line_back utf8 line) ≡ is_utf8 line

cut_line : (utf8 : Bool) (sheet next : Sheet) (n : ℕ) (line : List ℕ) → line_onto sheet n (columns utf8 line) ≡ Ok next → IsCutLine utf8 sheet next n line
cut_line utf8 sheet next n line e = by (is_kind (codes "XXZ") (columns utf8 line)) refl
  where
    by : (b : Bool) → is_kind (codes "XXZ") (columns utf8 line) ≡ b → IsCutLine utf8 sheet next n line
    by false is = record { read = rw is e; same = rw is refl }
    by true is =
        let cols = columns utf8 line in
        let b = alone utf8 cols is in
        let passed = absent_read sheet next n cols is e in
        record {
          read = rw is (bare_read sheet n (columns utf8 (text cols 1 3)) b.kind b.words ∙ ap (λ (s : Sheet). Ok s) passed.same);
          same = rw is (utf8_ascii (text cols 1 3) (letters_of cols is).ascii ∙ sym (utf8_ascii line (ascii_line utf8 line (letters_of cols is).ascii passed.named)));
        }

-- what a line leaves as it is
record IsKept (sheet next : Sheet) : Type 0 where
  utf8 : next.utf8 ≡ sheet.utf8
  carried : next.carried ≡ sheet.carried

kept_by : (sheet next : Sheet) (n : ℕ) (line : List (List ℕ)) → line_onto sheet n line ≡ Ok next → IsKept sheet next
kept_by sheet next n line e = elim (cases_Bool (is_player line)) [
  | inl named ↦
      let adds = line_adds sheet n line next named e in
      record { utf8 = ap (λ (s : Sheet). s.utf8) (sym adds.2); carried = ap (λ (s : Sheet). s.carried) (sym adds.2) }
  | inr other ↦
      let keeps = line_keeps (λ entry. entry) sheet n line next other e in
      record { utf8 = keeps.utf8; carried = keeps.carried }
]

-- ---- all lines

-- the lines that are cut read on to the same report, but for the lines that are carried
pub record AreCut (utf8 : Bool) (carried : List (Option (List ℕ))) (sheet final : Sheet) (n : ℕ) (all : List (List ℕ)) : Type 0 where
  pub read : lines_onto (carrying carried sheet) n (map (line_back utf8) all) ≡ Ok (carrying carried final)
  pub same : are_utf8 (map (line_back utf8) all) ≡ are_utf8 all
  pub utf8_is : final.utf8 ≡ utf8
  pub kept : final.carried ≡ sheet.carried

none_cut : (utf8 : Bool) (carried : List (Option (List ℕ))) (sheet final : Sheet) (n : ℕ) → sheet.utf8 ≡ utf8 → lines_onto sheet n [] ≡ Ok final → AreCut utf8 carried sheet final n []
unfolding lines_onto
none_cut utf8 carried sheet final n u e =
    let same : sheet ≡ final = same_ok sheet final e in
    record {
      read = ap (λ (s : Sheet). Ok (carrying carried s)) same;
      same = refl;
      utf8_is = ap (λ (s : Sheet). s.utf8) (sym same) ∙ u;
      kept = ap (λ (s : Sheet). s.carried) (sym same);
    }

pub are_cut : (utf8 : Bool) (carried : List (Option (List ℕ))) (sheet final : Sheet) (n : ℕ) (all : List (List ℕ)) → sheet.utf8 ≡ utf8 → lines_onto sheet n all ≡ Ok final
    → AreCut utf8 carried sheet final n all
are_cut utf8 carried sheet final n [] u e = none_cut utf8 carried sheet final n u e
are_cut utf8 carried sheet final n (line ∷ rest) u e =
    let first = first_onto sheet final n line rest e in
    let next = first.0 in
    let here : line_onto sheet n (columns utf8 line) ≡ Ok next = subst (λ b. line_onto sheet n (columns b line) ≡ Ok next) u first.1 in
    let kept = kept_by sheet next n (columns utf8 line) here in
    let one = cut_line utf8 sheet next n line here in
    let later = are_cut utf8 carried next final (n + 1) rest (kept.utf8 ∙ u) first.2 in
    let again : line_onto (carrying carried sheet) n (columns sheet.utf8 (line_back utf8 line)) ≡ Ok (carrying carried next) =
    ap (λ b. line_onto (carrying carried sheet) n (columns b (line_back utf8 line))) u
    ∙ line-carrying carried sheet n (columns utf8 (line_back utf8 line)) ∙ ap (all_carrying carried) one.read in
    record {
      read = onto_from (carrying carried sheet) (carrying carried next) (carrying carried final) n (line_back utf8 line) (map (line_back utf8) rest) again later.read;
      same = ap (λ b. b && are_utf8 (map (line_back utf8) rest)) one.same ∙ ap (λ b. is_utf8 line && b) later.same;
      utf8_is = later.utf8_is;
      kept = later.kept ∙ kept.carried;
    }

-- ---- what is carried, and how long lines are

carried-cut : (utf8 : Bool) (line : List ℕ) → carried_line utf8 (line_back utf8 line) ≡ option_map (line_back utf8) (carried_line utf8 line)
carried-cut utf8 line =
    ap (λ b. cond b None (Some (line_back utf8 line))) (test_back is_player not_player utf8 line) ∙ by (is_player (columns utf8 line))
  where
    by : (b : Bool) → ◌≡◌ {A = Option (List ℕ)} (cond b None (Some (line_back utf8 line))) (option_map (line_back utf8) (cond b None (Some line)))
    by true = refl
    by false = refl

pub all_carried-cut : (utf8 : Bool) (all : List (List ℕ)) → map (carried_line utf8) (map (line_back utf8) all) ≡ map (option_map (line_back utf8)) (map (carried_line utf8) all)
all_carried-cut utf8 [] = refl
all_carried-cut utf8 (line ∷ rest) =
    ap (λ (o : Option (List ℕ)). o ∷ map (carried_line utf8) (map (line_back utf8) rest)) (carried-cut utf8 line)
    ∙ ap (λ (os : List (Option (List ℕ))). option_map (line_back utf8) (carried_line utf8 line) ∷ os) (all_carried-cut utf8 rest)

not_long : IsOfOthers (λ line. is_player line && is_too_long line)
not_long line e = rw (not_player line e) refl

pub long-cut : (utf8 : Bool) (all : List (List ℕ)) → has_too_many_rounds utf8 (map (line_back utf8) all) ≡ has_too_many_rounds utf8 all
long-cut utf8 [] = refl
long-cut utf8 (line ∷ rest) =
    ap (λ b. b || has_too_many_rounds utf8 (map (line_back utf8) rest)) (test_back (λ cols. is_player cols && is_too_long cols) not_long utf8 line)
    ∙ ap (λ b. (is_player (columns utf8 line) && is_too_long (columns utf8 line)) || b) (long-cut utf8 rest)

-- ---- a text of these lines

-- some lines, each ended by LF
pub text_of : List (List ℕ) → List ℕ
text_of [] = []
text_of (line ∷ rest) = line ++ (10 ∷ text_of rest)

pub lines-text : (all : List (List ℕ)) → are_inside all ≡ true → lines (text_of all) ≡ all
unfolding text_of
lines-text [] inside = refl
lines-text (line ∷ rest) inside =
    let both = and_parts (list_all is_inside line) (are_inside rest) inside in
    lines-line line (text_of rest) both.0 ∙ ap (λ (ls : List (List ℕ)). line ∷ ls) (lines-text rest both.1)

inside-cut : (utf8 : Bool) (line : List ℕ) → list_all is_inside line ≡ true → list_all is_inside (line_back utf8 line) ≡ true
inside-cut utf8 line inside = by (is_kind (codes "XXZ") (columns utf8 line)) refl
  where
    by : (b : Bool) → is_kind (codes "XXZ") (columns utf8 line) ≡ b → list_all is_inside (cond b (text (columns utf8 line) 1 3) line) ≡ true
    by false is = inside
    by true is = (letters_of (columns utf8 line) is).inside

pub all_inside-cut : (utf8 : Bool) (all : List (List ℕ)) → are_inside all ≡ true → are_inside (map (line_back utf8) all) ≡ true
all_inside-cut utf8 [] inside = refl
all_inside-cut utf8 (line ∷ rest) inside =
    let both = and_parts (list_all is_inside line) (are_inside rest) inside in
    and_from (list_all is_inside (line_back utf8 line)) (are_inside (map (line_back utf8) rest)) (inside-cut utf8 line both.0) (all_inside-cut utf8 rest both.1)

-- the text begins with no byte order mark if the one that was read did not
pub mark-cut : (utf8 : Bool) (bytes : List ℕ) (all : List (List ℕ)) → lines bytes ≡ all → has_mark bytes ≡ false → has_mark (text_of (map (line_back utf8) all)) ≡ false
unfolding text_of
mark-cut utf8 bytes [] e none = refl
mark-cut utf8 bytes (line ∷ rest) e none = by (is_kind (codes "XXZ") (columns utf8 line)) refl
  where
    by : (b : Bool) → is_kind (codes "XXZ") (columns utf8 line) ≡ b → has_mark (cond b (text (columns utf8 line) 1 3) line ++ (10 ∷ text_of (map (line_back utf8) rest))) ≡ false
    by false is = line-no_mark bytes line rest (text_of (map (line_back utf8) rest)) e none
    by true is = (letters_of (columns utf8 line) is).unmarked (10 ∷ text_of (map (line_back utf8) rest))
