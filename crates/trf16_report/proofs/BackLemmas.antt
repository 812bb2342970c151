-- What the carried lines still say once of each line XXZ the kind alone is left.
use Rattle.std.proofs.Common.{◌≡◌, ℕ, Bool, true, false, cond, ◌+◌, List, [], ◌∷◌, map, Option, Some, None, refl, sym, ap, ◌∙◌, arith}
use Rattle.std.specs.Prelude.{codes, option_map}
use Rattle.std.specs.List.{list_all, list_any}
use Rattle.std.specs.Option.{option_map_or}
use Rattle.std.specs.Char.{is_ascii, to_ascii_lowercase}
use Rattle.std.specs.Str.{bytes_eq}
use Rattle.std.proofs.lemmas.Bool.{and_from}
use Rattle.std.proofs.lemmas.Bool.Decides.{nat_tests}
use Rattle.std.proofs.lemmas.Slice.Eq.{bytes_eq-Decides}
use Rattle.trf16_report.specs.Prelude.{columns, text, is_kind, is_word, words_of, names_absent, names_both, is_named_absent, some_carried, is_of, first_at, first_of, carried_line, carried_as, line_back, Entry, Sheet, is_marked, first_noted, starts_of, Tells, TellsApart}
use Rattle.trf16_report.specs.Notes.{start_at}
use Rattle.trf16_report.specs.declared.kind.LineKind.{LineKind}
use Rattle.trf16_report.specs.declared.kind.LineKind.TheVariants.{Xxa, Xxs, Rank}
use Rattle.trf16_report.specs.declared.notes.Notes.{Notes}
use Rattle.trf16_report.specs.declared.apart.Apart.{Apart}
use Rattle.trf16_report.proofs.AnsweringLemmas.{some_of}
use Rattle.trf16_report.proofs.WrittenColumns.{each, columns-ascii}

-- ---- one line

-- a line that is a kind and no more: its columns are three, and spell the kind
pub record IsKindAlone (utf8 : Bool) (line : List ℕ) : Type 0 where
  pub kind : is_kind (codes "XXZ") (columns utf8 line) ≡ true
  pub again : text (columns utf8 line) 1 3 ≡ line
  pub words : words_of (columns utf8 line) ≡ []

letter : (b : ℕ) → (to_ascii_lowercase b ≡ 120) → is_ascii b ≡ true
letter b e = grind (arith, nat_tests)

last_letter : (b : ℕ) → (to_ascii_lowercase b ≡ 122) → is_ascii b ≡ true
last_letter b e = grind (arith, nat_tests)

pub lower_is : (kind : List ℕ) → is_word kind (codes "XXZ") ≡ true → map to_ascii_lowercase kind ≡ 120 ∷ 120 ∷ 122 ∷ []
lower_is kind is = (bytes_eq-Decides (map to_ascii_lowercase kind) (map to_ascii_lowercase (codes "XXZ"))).0 is

three : (utf8 : Bool) (kind : List ℕ) → is_word kind (codes "XXZ") ≡ true → map to_ascii_lowercase kind ≡ 120 ∷ 120 ∷ 122 ∷ [] → IsKindAlone utf8 kind
unfolding each
three utf8 [] is e = absurd (cc)
three utf8 (a ∷ []) is e = absurd (cc)
three utf8 (a ∷ b ∷ []) is e = absurd (cc)
three utf8 (a ∷ b ∷ c ∷ []) is e =
    let cols : columns utf8 (a ∷ b ∷ c ∷ []) ≡ (a ∷ []) ∷ (b ∷ []) ∷ (c ∷ []) ∷ [] =
    columns-ascii utf8 (a ∷ b ∷ c ∷ [])
    (and_from (is_ascii a) (list_all is_ascii (b ∷ c ∷ [])) (letter a (cc))
    (and_from (is_ascii b) (list_all is_ascii (c ∷ [])) (letter b (cc)) (and_from (is_ascii c) true (last_letter c (cc)) refl))) in
    record {
      kind = rw (cols) is;
      again = rw (cols) refl;
      words = rw (cols) refl;
    }
three utf8 (a ∷ b ∷ c ∷ d ∷ rest) is e = absurd (cc)

pub alone : (utf8 : Bool) (line : List (List ℕ)) → is_kind (codes "XXZ") line ≡ true → IsKindAlone utf8 (text line 1 3)
alone utf8 line is = three utf8 (text line 1 3) is (lower_is (text line 1 3) is)

-- a line XXZ is of no other kind
pub no_other : (capitals : List ℕ) (line : List (List ℕ)) → is_word (codes "XXZ") capitals ≡ false → is_kind (codes "XXZ") line ≡ true → is_kind capitals line ≡ false
no_other capitals line differs is = ap (λ (kind : List ℕ). bytes_eq kind (map to_ascii_lowercase capitals)) (lower_is (text line 1 3) is) ∙ differs

-- a test that no line XXZ passes
abbrev pub IsOfOthers : (List (List ℕ) → Bool) → Type 0
IsOfOthers test = (line : List (List ℕ)) → is_kind (codes "XXZ") line ≡ true → test line ≡ false

pub others_together : IsOfOthers (is_kind (codes "XXP"))
others_together line is = no_other (codes "XXP") line refl is

pub others_both : (a b : ℕ) → IsOfOthers (names_both a b)
others_both a b line is = rw (no_other (codes "XXP") line refl is) refl

others_kinds : (kinds : List LineKind) → IsOfOthers (λ line. list_any (is_of line) kinds)
others_kinds [] line is = refl
others_kinds (Xxa ∷ kinds) line is = rw (no_other (codes "XXA") line refl is) (others_kinds kinds line is)
others_kinds (Xxs ∷ kinds) line is = rw (no_other (codes "XXS") line refl is) (others_kinds kinds line is)
others_kinds (Rank ∷ kinds) line is = rw (no_other (codes "XXC") line refl is) (others_kinds kinds line is)

-- of a line no such test tells whether its kind alone is left
pub test_back : (test : List (List ℕ) → Bool) → IsOfOthers test → (utf8 : Bool) (line : List ℕ) → test (columns utf8 (line_back utf8 line)) ≡ test (columns utf8 line)
test_back test others utf8 line = by (is_kind (codes "XXZ") (columns utf8 line)) refl
  where
    by : (is : Bool) → is_kind (codes "XXZ") (columns utf8 line) ≡ is → test (columns utf8 (cond is (text (columns utf8 line) 1 3) line)) ≡ test (columns utf8 line)
    by true is = others (columns utf8 (text (columns utf8 line) 1 3)) (alone utf8 (columns utf8 line) is).kind ∙ sym (others (columns utf8 line) is)
    by false is = refl

-- nobody is named in what is left
nobody_back : (start : ℕ) (utf8 : Bool) (line : List ℕ) → names_absent start (columns utf8 (line_back utf8 line)) ≡ false
nobody_back start utf8 line = by (is_kind (codes "XXZ") (columns utf8 line)) refl
  where
    by : (is : Bool) → is_kind (codes "XXZ") (columns utf8 line) ≡ is → names_absent start (columns utf8 (cond is (text (columns utf8 line) 1 3) line)) ≡ false
    by true is = let left = alone utf8 (columns utf8 line) is in rw (left.kind, left.words) refl
    by false is = rw is refl

pub line_back-twice : (utf8 : Bool) (line : List ℕ) → line_back utf8 (line_back utf8 line) ≡ line_back utf8 line
line_back-twice utf8 line = by (is_kind (codes "XXZ") (columns utf8 line)) refl
  where
    by : (is : Bool) → is_kind (codes "XXZ") (columns utf8 line) ≡ is
        → line_back utf8 (cond is (text (columns utf8 line) 1 3) line) ≡ cond is (text (columns utf8 line) 1 3) line
    by true is = let left = alone utf8 (columns utf8 line) is in rw (left.kind, left.again) refl
    by false is = rw is refl

-- ---- all lines that are carried

-- the lines with only the kind of each line XXZ
abbrev pub lines_back : Bool → List (Option (List ℕ)) → List (Option (List ℕ))
lines_back utf8 carried = map (option_map (line_back utf8)) carried

pub any_back : (test : List (List ℕ) → Bool) → IsOfOthers test → (utf8 : Bool) (carried : List (Option (List ℕ)))
    → list_any (λ line. option_map_or (λ bytes. test (columns utf8 bytes)) line false) (lines_back utf8 carried)
    ≡ list_any (λ line. option_map_or (λ bytes. test (columns utf8 bytes)) line false) carried
any_back test others utf8 [] = refl
any_back test others utf8 (None ∷ rest) = any_back test others utf8 rest
any_back test others utf8 (Some line ∷ rest) = rw (test_back test others utf8 line, any_back test others utf8 rest) refl

nobody : (start : ℕ) (utf8 : Bool) (carried : List (Option (List ℕ)))
    → list_any (λ line. option_map_or (λ bytes. names_absent start (columns utf8 bytes)) line false) (lines_back utf8 carried) ≡ false
nobody start utf8 [] = refl
nobody start utf8 (None ∷ rest) = nobody start utf8 rest
nobody start utf8 (Some line ∷ rest) = rw (nobody_back start utf8 line, nobody start utf8 rest) refl

first_back : (test : List (List ℕ) → Bool) → IsOfOthers test → (utf8 : Bool) (n : ℕ) (carried : List (Option (List ℕ)))
    → first_at test utf8 n (lines_back utf8 carried) ≡ first_at test utf8 n carried
first_back test others utf8 n [] = refl
first_back test others utf8 n (None ∷ rest) = first_back test others utf8 (n + 1) rest
first_back test others utf8 n (Some line ∷ rest) = rw (test_back test others utf8 line, first_back test others utf8 (n + 1) rest) refl

-- ---- reports

-- a report says what another does with only the kind of each line XXZ
pub record HasLinesBack (before after : Sheet) : Type 0 where
  pub columns : after.utf8 ≡ before.utf8
  pub lines : after.carried ≡ lines_back before.utf8 before.carried

pub some_back : (test : List (List ℕ) → Bool) → IsOfOthers test → (before after : Sheet) → HasLinesBack before after → some_carried test after ≡ some_carried test before
some_back test others before after back = rw (back.columns, back.lines) (any_back test others before.utf8 before.carried)

pub nobody_absent : (start : ℕ) (before after : Sheet) → HasLinesBack before after → is_named_absent after start ≡ false
nobody_absent start before after back = rw (back.columns, back.lines) (nobody start before.utf8 before.carried)

pub first_of-back : (kinds : List LineKind) (before after : Sheet) → HasLinesBack before after → first_of kinds after ≡ first_of kinds before
first_of-back kinds before after back = rw (back.columns, back.lines) (first_back (λ line. list_any (is_of line) kinds) (others_kinds kinds) before.utf8 1 before.carried)

-- the notes, without whoever was absent
pub tells_back : (notes again : Notes) (before after : Sheet) → HasLinesBack before after → ((start : ℕ) → is_marked again start ≡ false)
    → ((kind : LineKind) → first_noted again kind ≡ first_noted notes kind) → again.together ≡ notes.together → Tells notes before → Tells again after
tells_back notes again before after back none firsts same told = record {
  absent = λ start. none start ∙ sym (nobody_absent start before after back);
  first = λ kind. firsts kind ∙ told.first kind ∙ sym (first_of-back (kind ∷ []) before after back);
  together = same ∙ told.together ∙ sym (some_back (is_kind (codes "XXP")) others_together before after back);
}

-- and who is named together
pub apart_back : (of : Apart) (before after : Sheet) → HasLinesBack before after → after.players ≡ before.players → TellsApart of before → TellsApart of after
apart_back of before after back players told = record {
  count = rw players told.count;
  both = λ i j li lj.
      let starts = starts_of before.players in
      told.both i j li lj
      ∙ sym (some_back (names_both (start_at starts i) (start_at starts j)) (others_both (start_at starts i) (start_at starts j)) before after back)
      ∙ ap (λ (ps : List Entry). some_carried (names_both (start_at (starts_of ps) i) (start_at (starts_of ps) j)) after) (sym players);
}

-- ---- lines as they are carried

pub carried-back : (bare utf8 : Bool) (all : List (List ℕ)) → map (carried_as true utf8) all ≡ lines_back utf8 (map (carried_as bare utf8) all)
carried-back bare utf8 [] = refl
carried-back bare utf8 (line ∷ rest) = ap (λ (first : Option (List ℕ)). first ∷ map (carried_as true utf8) rest) (one bare)
    ∙ ap (λ (others : List (Option (List ℕ))). option_map (line_back utf8) (carried_as bare utf8 line) ∷ others) (carried-back bare utf8 rest)
  where
    twice : (o : Option (List ℕ)) → option_map (line_back utf8) o ≡ option_map (line_back utf8) (option_map (line_back utf8) o)
    twice None = refl
    twice (Some bytes) = ap (λ (b : List ℕ). Some b) (sym (line_back-twice utf8 bytes))

    one : (b : Bool) → carried_as true utf8 line ≡ option_map (line_back utf8) (carried_as b utf8 line)
    one true = twice (carried_line utf8 line)
    one false = refl

-- a test that no line XXZ passes does not tell how lines are carried
pub some_as : (test : List (List ℕ) → Bool) → IsOfOthers test → (bare utf8 : Bool) (all : List (List ℕ))
    → some_of test utf8 all ≡ list_any (λ line. option_map_or (λ bytes. test (columns utf8 bytes)) line false) (map (carried_as bare utf8) all)
some_as test others false utf8 all = refl
some_as test others true utf8 all = rw (carried-back false utf8 all) (sym (any_back test others utf8 (map (carried_line utf8) all)))
