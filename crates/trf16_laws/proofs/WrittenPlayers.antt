-- The line of a player, written, reads back as the player.
use Rattle.std.proofs.Common.{◌≡◌, ℕ, ◌+◌, ◌-◌, ◌*◌, ◌<◌, ◌≤◌, Bool, true, false, not, ◌&&◌, ◌==◌, List, [], ◌∷◌, ◌++◌, length, take, drop, replicate, refl, sym, ap, ◌∙◌, append_assoc, arith, subst, inl, inr, Option, Some, Result, Ok}
use Rattle.std.specs.Prelude.{slice_range, codes}
use Rattle.std.specs.Fmt.{decimal}
use Rattle.std.specs.List.{list_all, flat_map}
use Rattle.std.specs.Char.{is_ascii}
use Rattle.std.specs.Str.{is_utf8, bytes_eq}
use Rattle.std.proofs.lemmas.Bool.{and_parts, true≢false}
use Rattle.std.proofs.lemmas.List.{append-nil, length-append, drop-drop, drop_at, drop_all}
use Rattle.std.proofs.lemmas.Slice.Eq.{bytes_eq-Decides}
use Rattle.std.proofs.Math.Bool.{and-true}
use Rattle.trf16_report.specs.Prelude.{columns, joined, text, is_blank, words, number_in, points_in, without_last, trimmed, cell_from, Entry, Sheet, known, blank_at, blanks_at, start_number_at, start_at, points_at, rounds_at, is_blank_cell, cells_at, player_at, is_player, is_too_long, right_in_four, left_in, points_field, cell_text, round_text, player_text}
use Rattle.trf16_report.specs.Outcomes.{◌>>=◌}
use Rattle.trf16_report.specs.declared.cell.Cell.{Cell}
use Rattle.trf16_report.specs.declared.cell.Cell.TheVariants.{Blank}
use Rattle.trf16_report.specs.declared.fault.Fault.{Fault}
use Rattle.trf16_report.specs.declared.fault.Fault.TheVariants.{BadNumber}
use Rattle.trf16_report.proofs.ColumnLemmas.{joined-columns}
use Rattle.trf16_laws.proofs.WrittenNumbers.{numbers}
use Rattle.trf16_report.proofs.WrittenColumns.{is_plain, each, joined-each, length-each, starts-append, starts-ascii, columns-append, columns-ascii, AreColumns, AreColumns-drop, columns-are, ascii-plain, slice_part}
use Rattle.trf16_laws.proofs.WrittenCells.{is_sound, fields_of, list_all-append, plain-number, length-four, four_are}
use Rattle.trf16_report.proofs.StepLemmas.{then_ok, same_ok}
use Rattle.trf16_writer.proofs.ReadStarts.{ok_or_ok, start_is}
use Rattle.trf16_laws.proofs.WrittenRounds.{blank_ok, blanks_ok, tail_of, tail-rounds, lead_blank, rounds-written, rounds_were, ascii-blank, ascii_from, joined_at, fields_are}
use Rattle.trf16_laws.proofs.WrittenText.{is_inside, utf8_split, utf8_nil, utf8_behind, utf8_front}
use Rattle.trf16_report.proofs.FieldLemmas.{without_last-append}
use Rattle.trf16_report.proofs.ReadingLemmas.{all_are_blank}
use Rattle.trf16_reader.proofs.RoundSteps.{text-behind, blank_from, blanks_from}
use Rattle.trf16_laws.proofs.WrittenFields.{without_last-twice, cut, all_cut, length_cut, IsCarried, carried_is, filled, inside-plain, are_small, points_field_is, ascii-points, ascii-number}
use Rattle.trf16_report.specs.declared.limits.TheConstants.{MOST_ROUNDS, LAST_COLUMN}

-- what the line of a player is
pub record IsPlayer (sheet : Sheet) (n : ℕ) (line : List (List ℕ)) (entry : Entry) : Type 0 where
  pub blank4 : is_blank (text line 4 4) ≡ true
  pub number : number_in (words (text line 5 8)) ≡ Some entry.start
  pub some : (entry.start == 0) ≡ false
  pub fresh : known sheet entry.start ≡ false
  pub points : points_in (words (text line 81 84)) ≡ Some entry.points
  pub blank90 : is_blank (text line 90 90) ≡ true
  pub blank91 : is_blank (text line 91 91) ≡ true
  pub cells : cells_at n line ≡ Ok entry.cells
  pub numbered : n ≡ entry.line
  pub left : trimmed (text line 9 80) ≡ entry.left
  pub right : trimmed (text line 85 89) ≡ entry.right

pub player_from : (sheet : Sheet) (n : ℕ) (line : List (List ℕ)) (entry : Entry) → IsPlayer sheet n line entry → player_at sheet n line ≡ Ok entry
unfolding player_at start_at start_number_at points_at
player_from sheet n line entry p =
    rw (
      blank_from n line 4 p.blank4,
      p.number,
      p.some,
      p.fresh,
      p.points,
      blanks_from n line (90 ∷ 91 ∷ []) (p.blank90, (p.blank91, tt)),
      p.cells,
      p.numbered,
      p.left,
      p.right,
    ) refl

is_same : (sheet : Sheet) (n : ℕ) (line : List (List ℕ)) (made entry : Entry) → made ≡ entry → IsPlayer sheet n line made → IsPlayer sheet n line entry
is_same sheet n line made entry e h = subst (IsPlayer sheet n line) e h

pub player_is : (sheet : Sheet) (n : ℕ) (line : List (List ℕ)) (entry : Entry) → player_at sheet n line ≡ Ok entry → IsPlayer sheet n line entry
unfolding player_at points_at
player_is sheet n line entry e =
    let made : ℕ → Option ℕ → List Cell → Entry = λ start points cells.
    record { start = start; line = n; points = points; left = trimmed (text line 9 80); right = trimmed (text line 85 89); cells = cells } in
    let rest : ℕ → Option ℕ → Result Entry Fault = λ start points. blanks_at n line (90 ∷ 91 ∷ []) >>= λ _. cells_at n line >>= λ cells. Ok (made start points cells) in
    let s1 = then_ok (blank_at n line 4) (λ _. start_at sheet n line >>= λ start. points_at n line >>= rest start) entry e in
    let s2 = then_ok (start_at sheet n line) (λ start. points_at n line >>= rest start) entry s1.2 in
    let s3 = then_ok (points_at n line) (rest s2.0) entry s2.2 in
    let s4 = then_ok (blanks_at n line (90 ∷ 91 ∷ [])) (λ _. cells_at n line >>= λ cells. Ok (made s2.0 s3.0 cells)) entry s3.2 in
    let blank = blanks_ok n line (90 ∷ 91 ∷ []) s4.0 s4.1 in
    let s5 = then_ok (cells_at n line) (λ cells. Ok (made s2.0 s3.0 cells)) entry s4.2 in
    let same : made s2.0 s3.0 s5.0 ≡ entry = same_ok (made s2.0 s3.0 s5.0) entry s5.2 in
    let start = start_is sheet n line s2.0 s2.1 in
    let points : points_in (words (text line 81 84)) ≡ Some s3.0 = ok_or_ok (points_in (words (text line 81 84))) (BadNumber n) s3.0 s3.1 in
    let built : IsPlayer sheet n line (made s2.0 s3.0 s5.0) = record {
      blank4 = blank_ok n line 4 s1.0 s1.1;
      number = start.number;
      some = start.some;
      fresh = start.fresh;
      points = points;
      blank90 = blank.0;
      blank91 = blank.1.0;
      cells = s5.1;
      numbered = refl;
      left = refl;
      right = refl;
    } in
    is_same sheet n line (made s2.0 s3.0 s5.0) entry same built

-- what is known of a player who was read
pub record IsSoundEntry (utf8 : Bool) (entry : Entry) : Type 0 where
  pub start : entry.start < 10000
  pub some : (entry.start == 0) ≡ false
  pub left : IsCarried utf8 72 entry.left
  pub right : IsCarried utf8 5 entry.right
  pub sound : list_all is_sound entry.cells ≡ true
  pub few : length entry.cells ≤ MOST_ROUNDS
  pub cut : without_last is_blank_cell entry.cells ≡ entry.cells

-- six parts of a line
record AreParts (line a b c d e f : List (List ℕ)) : Type 0 where
  start : slice_range line 4 8 ≡ b
  left : slice_range line 8 80 ≡ c
  points : slice_range line 80 84 ≡ d
  right : slice_range line 84 89 ≡ e
  back : drop 89 line ≡ f

six_parts : (a b c d e f : List (List ℕ)) → length a ≡ 4 → length b ≡ 4 → length c ≡ 72 → length d ≡ 4 → length e ≡ 5
    → AreParts (a ++ (b ++ (c ++ (d ++ (e ++ f))))) a b c d e f
six_parts a b c d e f la lb lc ld le =
    let ab = a ++ b in
    let abc = ab ++ c in
    let abcd = abc ++ d in
    let abcde = abcd ++ e in
    let s1 : a ++ (b ++ (c ++ (d ++ (e ++ f)))) ≡ ab ++ (c ++ (d ++ (e ++ f))) = sym (append_assoc a b (c ++ (d ++ (e ++ f)))) in
    let s2 : a ++ (b ++ (c ++ (d ++ (e ++ f)))) ≡ abc ++ (d ++ (e ++ f)) = s1 ∙ sym (append_assoc ab c (d ++ (e ++ f))) in
    let s3 : a ++ (b ++ (c ++ (d ++ (e ++ f)))) ≡ abcd ++ (e ++ f) = s2 ∙ sym (append_assoc abc d (e ++ f)) in
    let s4 : a ++ (b ++ (c ++ (d ++ (e ++ f)))) ≡ abcde ++ f = s3 ∙ sym (append_assoc abcd e f) in
    let l2 : length ab ≡ 8 = omega (arith, length-append a b) in
    let l3 : length abc ≡ 80 = omega (arith, length-append ab c) in
    let l4 : length abcd ≡ 84 = omega (arith, length-append abc d) in
    let l5 : length abcde ≡ 89 = omega (arith, length-append abcd e) in
    record {
      start = slice_part a b (c ++ (d ++ (e ++ f))) 4 8 la (omega arith);
      left = ap (λ (cs : List (List ℕ)). slice_range cs 8 80) s1 ∙ slice_part ab c (d ++ (e ++ f)) 8 80 l2 (omega arith);
      points = ap (λ (cs : List (List ℕ)). slice_range cs 80 84) s2 ∙ slice_part abc d (e ++ f) 80 84 l3 (omega arith);
      right = ap (λ (cs : List (List ℕ)). slice_range cs 84 89) s3 ∙ slice_part abcd e f 84 89 l4 (omega arith);
      back = ap (λ (cs : List (List ℕ)). drop 89 cs) s4 ∙ drop_at abcde f 89 l5;
    }

-- the rounds that are written

pub plain-rounds : (cells : List Cell) → list_all is_sound cells ≡ true → list_all is_plain (flat_map round_text cells) ≡ true
plain-rounds [] h = refl
plain-rounds (cell ∷ cells) h =
    let both = and_parts (is_sound cell) (list_all is_sound cells) h in
    list_all-append is_plain (cell_text cell) (flat_map round_text cells) (fields_of cell both.0).plain (plain-rounds cells both.1)

length-cell : (cell : Cell) → is_sound cell ≡ true → length (cell_text cell) ≡ 8
length-cell cell h =
    let f = fields_of cell h in
    let four : length f.opponent ≡ 4 = f.four in
    omega (arith, ap length f.spelled, length-append f.opponent (32 ∷ f.colour ∷ 32 ∷ f.result ∷ []))

pub length-rounds : (cells : List Cell) → list_all is_sound cells ≡ true → length (flat_map round_text cells) ≡ 10 * length cells
length-rounds [] h = refl
length-rounds (cell ∷ cells) h =
    let both = and_parts (is_sound cell) (list_all is_sound cells) h in
    let eight : length (cell_text cell) ≡ 8 = length-cell cell both.0 in
    let others : length (flat_map round_text cells) ≡ 10 * length cells = length-rounds cells both.1 in
    omega (arith, length-append (cell_text cell) (flat_map round_text cells))

-- a cell that was read, written and read again
pub cell_again : (opponent colour result : List ℕ) (cell : Cell) → cell_from opponent colour result ≡ Some cell
    → cell_from (slice_range (cell_text cell) 0 4) (slice_range (cell_text cell) 5 6) (slice_range (cell_text cell) 7 8) ≡ Some cell
cell_again opponent colour result cell e =
    let f = fields_of cell (fields_are opponent colour result cell e).sound in
    let o = four_are f.opponent f.four in
    let spelled : cell_text cell ≡ o.0 ∷ o.1 ∷ o.2 ∷ o.3 ∷ 32 ∷ f.colour ∷ 32 ∷ f.result ∷ [] =
    f.spelled ∙ ap (λ (bs : List ℕ). bs ++ (32 ∷ f.colour ∷ 32 ∷ f.result ∷ [])) o.4 in
    let read : cell_from (o.0 ∷ o.1 ∷ o.2 ∷ o.3 ∷ []) (f.colour ∷ []) (f.result ∷ []) ≡ Some cell =
    ap (λ (bs : List ℕ). cell_from bs (f.colour ∷ []) (f.result ∷ [])) (sym o.4) ∙ f.read in
    rw spelled read

pub cell_size : (opponent colour result : List ℕ) (cell : Cell) → cell_from opponent colour result ≡ Some cell → length (cell_text cell) ≡ 8
cell_size opponent colour result cell e = length-cell cell (fields_are opponent colour result cell e).sound

pub cells_written : (n : ℕ) (line : List (List ℕ)) (cells : List Cell) → list_all is_sound cells ≡ true → length cells ≤ MOST_ROUNDS → without_last is_blank_cell cells ≡ cells
    → drop 89 line ≡ each (flat_map round_text cells) → cells_at n line ≡ Ok cells
unfolding cells_at
cells_written n line cells sound few cut e =
    let behind : drop (91 + 10 * 0) line ≡ tail_of cells = sym (drop-drop 2 89 line) ∙ ap (λ (cs : List (List ℕ)). drop 2 cs) e ∙ tail-rounds cells in
    let read = rounds-written n line 0 MOST_ROUNDS cells sound few behind in
    rw (read, without_last-append is_blank_cell cells (replicate (MOST_ROUNDS - length cells) Blank) (all_are_blank (MOST_ROUNDS - length cells)), cut) refl

-- what the written line of a player is
pub record IsWrittenPlayer (sheet : Sheet) (utf8 : Bool) (entry : Entry) : Type 0 where
  pub read : player_at sheet entry.line (columns utf8 (player_text utf8 entry)) ≡ Ok entry
  pub named : is_player (columns utf8 (player_text utf8 entry)) ≡ true
  pub short : is_too_long (columns utf8 (player_text utf8 entry)) ≡ false
  pub inside : list_all is_inside (player_text utf8 entry) ≡ true
  pub same : is_utf8 (player_text utf8 entry) ≡ (is_utf8 entry.left && is_utf8 entry.right)

four_split : (left field : List ℕ) (rest : List ℕ) → length field ≡ 4 → list_all is_ascii field ≡ true → is_utf8 (left ++ (field ++ rest)) ≡ (is_utf8 left && is_utf8 rest)
four_split left [] rest size ascii = absurd (omega arith)
four_split left (c ∷ field) rest size ascii =
    let both = and_parts (is_ascii c) (list_all is_ascii field) ascii in
    utf8_split left c (field ++ rest) both.0 ∙ ap (λ b. is_utf8 left && b) (utf8_behind field rest both.1)

blank_none : (cols : List (List ℕ)) → cols ≡ [] → is_blank (joined cols) ≡ true
blank_none cols e = rw e refl

front_is : (rest : List (List ℕ)) → (is_blank (text (each (codes "001 ") ++ rest) 4 4) ≡ true) × (is_player (each (codes "001 ") ++ rest) ≡ true)
unfolding each
front_is rest = (refl, refl)

pub written_player : (sheet : Sheet) (utf8 : Bool) (entry : Entry) → IsSoundEntry utf8 entry → are_small entry.points → known sheet entry.start ≡ false → IsWrittenPlayer sheet utf8 entry
written_player sheet utf8 entry s small fresh =
    let S = right_in_four (decimal entry.start) in
    let L = left_in utf8 72 entry.left in
    let P = points_field entry.points in
    let R = left_in utf8 5 entry.right in
    let C = flat_map round_text entry.cells in
    let l = filled utf8 72 entry.left s.left in
    let r = filled utf8 5 entry.right s.right in
    let p = points_field_is entry.points small in
    let plain-S = plain-number entry.start s.start in
    let plain-C = plain-rounds entry.cells s.sound in
    let ascii-S = ascii-plain S plain-S in
    let ascii-P = ascii-plain P p.plain in
    let ascii-C = ascii-plain C plain-C in
    let starts5 = starts-ascii utf8 C ascii-C in
    let starts4 = starts-append utf8 R C r.front starts5 in
    let starts3 = starts-append utf8 P (R ++ C) (starts-ascii utf8 P ascii-P) starts4 in
    let starts2 = starts-append utf8 L (P ++ (R ++ C)) l.front starts3 in
    let starts1 = starts-append utf8 S (L ++ (P ++ (R ++ C))) (starts-ascii utf8 S ascii-S) starts2 in
    let cols5 : columns utf8 (R ++ C) ≡ columns utf8 R ++ each C = columns-append utf8 R C starts5 ∙ ap (λ (cs : List (List ℕ)). columns utf8 R ++ cs) (columns-ascii utf8 C ascii-C) in
    let cols4 : columns utf8 (P ++ (R ++ C)) ≡ each P ++ (columns utf8 R ++ each C) =
    rw (columns-append utf8 P (R ++ C) starts4, columns-ascii utf8 P ascii-P, cols5) refl in
    let cols3 : columns utf8 (L ++ (P ++ (R ++ C))) ≡ columns utf8 L ++ (each P ++ (columns utf8 R ++ each C)) =
    rw (columns-append utf8 L (P ++ (R ++ C)) starts3, cols4) refl in
    let cols2 : columns utf8 (S ++ (L ++ (P ++ (R ++ C)))) ≡ each S ++ (columns utf8 L ++ (each P ++ (columns utf8 R ++ each C))) =
    rw (columns-append utf8 S (L ++ (P ++ (R ++ C))) starts2, columns-ascii utf8 S ascii-S, cols3) refl in
    let W = each (codes "001 ") ++ (each S ++ (columns utf8 L ++ (each P ++ (columns utf8 R ++ each C)))) in
    let cols : columns utf8 (player_text utf8 entry) ≡ each (codes "001 ") ++ (each S ++ (columns utf8 L ++ (each P ++ (columns utf8 R ++ each C)))) =
    rw (columns-append utf8 (codes "001 ") (S ++ (L ++ (P ++ (R ++ C)))) starts1, columns-ascii utf8 (codes "001 ") refl, cols2) refl in
    let size-S : length (each S) ≡ 4 = length-each S ∙ length-four entry.start s.start in
    let size-P : length (each P) ≡ 4 = length-each P ∙ p.four in
    let parts = six_parts (each (codes "001 ")) (each S) (columns utf8 L) (each P) (columns utf8 R) (each C) (length-each (codes "001 ")) size-S l.size size-P r.size in
    let front = front_is (each S ++ (columns utf8 L ++ (each P ++ (columns utf8 R ++ each C)))) in
    let start : text W 5 8 ≡ S = ap joined parts.start ∙ joined-each S in
    let left : text W 9 80 ≡ L = ap joined parts.left ∙ joined-columns utf8 L in
    let points : text W 81 84 ≡ P = ap joined parts.points ∙ joined-each P in
    let right : text W 85 89 ≡ R = ap joined parts.right ∙ joined-columns utf8 R in
    let back : drop 89 W ≡ each C = parts.back in
    let blank90 : text W 90 90 ≡ text (each C) 1 1 = text-behind W 89 1 1 (omega arith) ∙ ap (λ (cs : List (List ℕ)). text cs 1 1) back in
    let blank91 : text W 91 91 ≡ text (each C) 2 2 = text-behind W 89 2 2 (omega arith) ∙ ap (λ (cs : List (List ℕ)). text cs 2 2) back in
    let player : IsPlayer sheet entry.line W entry = record {
      blank4 = front.0;
      number = ap (λ (bs : List ℕ). number_in (words bs)) start ∙ numbers entry.start s.start;
      some = s.some;
      fresh = fresh;
      points = ap (λ (bs : List ℕ). points_in (words bs)) points ∙ p.read;
      blank90 = ap is_blank blank90 ∙ lead_blank 1 (inl refl) entry.cells;
      blank91 = ap is_blank blank91 ∙ lead_blank 2 (inr refl) entry.cells;
      cells = cells_written entry.line W entry.cells s.sound s.few s.cut back;
      numbered = refl;
      left = ap trimmed left ∙ l.read;
      right = ap trimmed right ∙ r.read;
    } in
    let few : length entry.cells ≤ MOST_ROUNDS = s.few in
    let size : length (each C) ≤ 2 + 10 * MOST_ROUNDS = omega (arith, length-each C, length-rounds entry.cells s.sound) in
    let end : drop LAST_COLUMN W ≡ [] = sym (drop-drop (2 + 10 * MOST_ROUNDS) 89 W) ∙ ap (λ (cs : List (List ℕ)). drop (2 + 10 * MOST_ROUNDS) cs) back ∙ drop_all (2 + 10 * MOST_ROUNDS) (each C) size in
    record {
      read = rw cols (player_from sheet entry.line W entry player);
      named = rw cols front.1;
      short = rw cols (ap not (blank_none (drop LAST_COLUMN W) end));
      inside = list_all-append is_inside (codes "001 ") (S ++ (L ++ (P ++ (R ++ C)))) refl (list_all-append is_inside S (L ++ (P ++ (R ++ C))) (inside-plain S plain-S)
          (list_all-append is_inside L (P ++ (R ++ C)) l.inside (list_all-append is_inside P (R ++ C) (inside-plain P p.plain)
          (list_all-append is_inside R C r.inside (inside-plain C plain-C)))));
      same = utf8_behind (codes "001 ") (S ++ (L ++ (P ++ (R ++ C)))) refl ∙ utf8_behind S (L ++ (P ++ (R ++ C))) ascii-S ∙ four_split L P (R ++ C) p.four ascii-P
          ∙ rw (utf8_front R C ascii-C, l.same, r.same) refl;
    }

-- what was read

utf8_skip : (i k : ℕ) (cols : List (List ℕ)) → list_all is_ascii (joined (take k (drop i cols))) ≡ true → is_utf8 (joined (drop i cols)) ≡ is_utf8 (joined (drop (i + k) cols))
utf8_skip i k cols h = ap is_utf8 (joined_at i k cols) ∙ utf8_behind (joined (take k (drop i cols))) (joined (drop (i + k) cols)) h

nil_no_column : (utf8 : Bool) → columns utf8 [] ≡ [] ∷ [] → ⊥
nil_no_column utf8 e = cc

join_columns : (utf8 : Bool) (left : List ℕ) (cols : List (List ℕ)) → AreColumns utf8 cols → list_all is_ascii (joined (take 4 cols)) ≡ true
    → is_utf8 (left ++ joined cols) ≡ (is_utf8 left && is_utf8 (joined cols))
join_columns utf8 left [] are h = ap is_utf8 (append-nil left) ∙ sym (ap (λ b. is_utf8 left && b) utf8_nil ∙ and-true (is_utf8 left))
join_columns utf8 left ([] ∷ cols) are h = absurd (nil_no_column utf8 are.0.one)
join_columns utf8 left ((c ∷ column) ∷ cols) are h =
    let ascii = (and_parts (is_ascii c) (list_all is_ascii (column ++ joined (take 3 cols))) h).0 in
    utf8_split left c (column ++ joined cols) ascii
    ∙ ap (λ b. is_utf8 left && b) (sym (utf8_split [] c (column ++ joined cols) ascii ∙ rw utf8_nil refl))

pub record WasPlayer (utf8 : Bool) (line : List ℕ) (entry : Entry) : Type 0 where
  pub sound : IsSoundEntry utf8 entry
  pub same : is_utf8 line ≡ (is_utf8 entry.left && is_utf8 entry.right)

pub cells_were : (n : ℕ) (line : List (List ℕ)) (cells : List Cell) → cells_at n line ≡ Ok cells
    → (all : List Cell) × (rounds_at n line 0 MOST_ROUNDS ≡ Ok all) × (without_last is_blank_cell all ≡ cells)
unfolding cells_at
cells_were n line cells e =
    let s = then_ok (rounds_at n line 0 MOST_ROUNDS) (λ all. Ok (without_last is_blank_cell all)) cells e in
    (s.0, s.1, same_ok (without_last is_blank_cell s.0) cells s.2)

not_blank_end : (b : Bool) → not b ≡ false → b ≡ true
not_blank_end true h = refl
not_blank_end false h = absurd (true≢false h)

kind_ascii : (bytes : List ℕ) → bytes_eq bytes (codes "001") ≡ true → list_all is_ascii bytes ≡ true
kind_ascii bytes e = rw ((bytes_eq-Decides bytes (codes "001")).0 e) refl

pub was_player : (utf8 : Bool) (sheet : Sheet) (n : ℕ) (line : List ℕ) (entry : Entry) → list_all is_inside line ≡ true
    → is_player (columns utf8 line) ≡ true → is_too_long (columns utf8 line) ≡ false → IsPlayer sheet n (columns utf8 line) entry → WasPlayer utf8 line entry
was_player utf8 sheet n line entry inside named short p =
    let cols = columns utf8 line in
    let number = ascii-number (text cols 5 8) entry.start p.number in
    let points = ascii-points (text cols 81 84) entry.points p.points in
    let cells = cells_were n cols entry.cells p.cells in
    let rounds = rounds_were n cols 0 MOST_ROUNDS cells.0 cells.1 in
    let count : length cells.0 ≡ MOST_ROUNDS = rounds.count in
    let end = ascii-blank (joined (drop LAST_COLUMN cols)) (not_blank_end (is_blank (joined (drop LAST_COLUMN cols))) short) in
    let behind91 : list_all is_ascii (joined (drop 91 cols)) ≡ true = rounds.ascii end in
    let behind90 : list_all is_ascii (joined (drop 90 cols)) ≡ true = ascii_from 90 1 cols (ascii-blank (text cols 91 91) p.blank91) behind91 in
    let behind89 : list_all is_ascii (joined (drop 89 cols)) ≡ true = ascii_from 89 1 cols (ascii-blank (text cols 90 90) p.blank90) behind90 in
    let L = joined (take 72 (drop 8 cols)) in
    let R = joined (take 5 (drop 84 cols)) in
    let l = cut (λ b. b == 32) L in
    let r = cut (λ b. b == 32) R in
    let are : AreColumns utf8 (drop 80 cols) = subst (AreColumns utf8) (drop-drop 79 1 cols) (AreColumns-drop utf8 79 (drop 1 cols) (columns-are utf8 line)) in
    let points' : list_all is_ascii (joined (take 4 (drop 80 cols))) ≡ true = points in
    let utf8-L : is_utf8 L ≡ is_utf8 (trimmed L) = ap is_utf8 l.parts ∙ utf8_front (trimmed L) l.back (ascii-blank l.back l.passes) in
    let utf8-R : is_utf8 R ≡ is_utf8 (trimmed R) = ap is_utf8 r.parts ∙ utf8_front (trimmed R) r.back (ascii-blank r.back r.passes) in
    let back : is_utf8 (joined (drop 80 cols)) ≡ is_utf8 entry.right =
    utf8_skip 80 4 cols points ∙ ap is_utf8 (joined_at 84 5 cols) ∙ utf8_front R (joined (drop 89 cols)) behind89 ∙ utf8-R ∙ ap is_utf8 p.right in
    let all : is_utf8 line ≡ is_utf8 (joined (drop 8 cols)) =
    ap is_utf8 (sym (joined-columns utf8 line)) ∙ utf8_skip 0 3 cols (kind_ascii (text cols 1 3) named) ∙ utf8_skip 3 1 cols (ascii-blank (text cols 4 4) p.blank4)
    ∙ utf8_skip 4 4 cols number.1 in
    record {
      sound = record {
        start = number.0;
        some = p.some;
        left = subst (IsCarried utf8 72) p.left (carried_is utf8 line 7 72 inside);
        right = subst (IsCarried utf8 5) p.right (carried_is utf8 line 83 5 inside);
        sound = subst (λ (cs : List Cell). list_all is_sound cs ≡ true) cells.2 (all_cut is_blank_cell is_sound cells.0 rounds.sound);
        few = let fewer : length (without_last is_blank_cell cells.0) ≤ length cells.0 = length_cut is_blank_cell cells.0 in
            subst (λ (cs : List Cell). length cs ≤ MOST_ROUNDS) cells.2 (omega arith);
        cut = subst (λ (cs : List Cell). without_last is_blank_cell cs ≡ cs) cells.2 (without_last-twice is_blank_cell cells.0);
      };
      same = all ∙ ap is_utf8 (joined_at 8 72 cols) ∙ join_columns utf8 L (drop 80 cols) are points'
          ∙ rw (back, utf8-L) (ap (λ (bs : List ℕ). is_utf8 bs && is_utf8 entry.right) p.left);
    }
