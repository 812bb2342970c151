-- A report that was read, as it stood before one of its rounds, reads back from its canonical text.
--
-- The report is first one with its lines XXZ cut, which the lines that were read, cut, are laid out as (`BackLines`). Taking rounds back is
-- then a change of players as the round trip allows it (`Turns`). The rules on two players hold in the rounds that stay, as before, and the
-- round that is taken back has no pairing. The points are the sum over the rounds that stay, of which the last is the last that is paired.
use Rattle.std.proofs.Common.{◌≡◌, ◌⊎◌, inl, inr, ℕ, zero, suc, ◌+◌, ◌-◌, ◌<◌, ◌≤◌, Bool, true, false, ◌&&◌, ◌||◌, ◌==◌, nat_lt, max, cond, List, [], ◌∷◌, length, get_or, take, map, refl, sym, ap, ◌∙◌, arith, subst, Option, Some, None, Result, Ok, Err}
use Rattle.std.specs.Prelude.{sum_by, option_map}
use Rattle.std.specs.List.{AllByRecursion, list_all}
use Rattle.std.specs.Option.{option_map_or}
use Rattle.std.specs.Str.{is_utf8}
use Rattle.std.proofs.lemmas.Bool.{and_parts, and_from, cases_lt, lt-ltb, le-ltb}
use Rattle.std.proofs.lemmas.List.{get_or_past, length-take}
use Rattle.trf16_report.specs.Prelude.{without_marks, lines, Entry, Sheet, known, cell_at, cell_in, cells_of, half_points, is_paired, last_paired, last_paired_of, rounds_played, opponent_in_cell, has_other_points, cell_fits, cells_fit, points_fit, player_fits, players_fit, is_blank_cell, carried_line, without_players, has_too_many_rounds, sized, lines_onto, verdict, written, with_cell, cell_back, cells_back, entry_back, line_back, taken_back, before_round}
use Rattle.trf16_report.specs.declared.cell.Bye.TheVariants.{Half, Full, Allocated, Zero}
use Rattle.trf16_report.specs.declared.cell.Cell.{Cell}
use Rattle.trf16_report.specs.declared.cell.Cell.TheVariants.{Blank, Bye, Game, Forfeit, Unfinished}
use Rattle.trf16_report.specs.declared.fault.Fault.{Fault}
use Rattle.trf16_report.specs.declared.fault.Fault.TheVariants.{Points}
use Rattle.trf16_report.specs.declared.limits.TheConstants.{MOST_ROUNDS, MOST_BYTES}
use Rattle.trf16_writer.proofs.BoardLemmas.{eq-self}
use Rattle.trf16_laws.proofs.MeetingLemmas.{cell_of-fit}
use Rattle.trf16_laws.proofs.PairedRound.{fits-none, fits-same, cells_fit-from, no_opponent, all-with, length-with}
use Rattle.trf16_report.proofs.StepLemmas.{then_ok}
use Rattle.trf16_laws.proofs.WrittenCells.{is_sound}
use Rattle.trf16_laws.proofs.WrittenFields.{all_cut, length_cut, without_last-twice}
use Rattle.trf16_writer.proofs.AcceptedReport.{IsLaidOut, IsLaidOutOf, accepted, sized_is}
use Rattle.trf16_laws.proofs.WrittenReport.{Turns, known-turned, are_all_sound, were_sound, laid_again, round_trip}
use Rattle.trf16_laws.proofs.WrittenText.{are_utf8, no_mark, without_marks-no_mark, lines-inside, utf8_lines}
use Rattle.report_laws.proofs.CellLemmas.{StartAlike}
use Rattle.report_laws.proofs.FieldLemmas.{cells-alike, points-alike}
use Rattle.report_laws.proofs.CellsBack.{back-there, start-back, ends-back}
use Rattle.report_laws.proofs.BackLines.{carrying, are_cut, all_carried-cut, long-cut, text_of, lines-text, all_inside-cut, mark-cut}
use Rattle.report_laws.proofs.ViewCases.{IsAsItIs, IsTakenBack, which}

abbrev fits : Result (Unit {0}) Fault
fits = Ok (tt {0})

-- ---- the report with its lines cut

-- the lines that a report carries, cut
abbrev cut_of : Sheet → List (Option (List ℕ))
cut_of report = map (option_map (line_back report.utf8)) report.carried

sized-carrying : (carried : List (Option (List ℕ))) (report : Sheet) (long : Bool) → sized report long ≡ Ok report → sized (carrying carried report) long ≡ Ok (carrying carried report)
unfolding sized
sized-carrying carried report long e =
    let s = sized_is report report long e in
    rw (s.few, s.short, s.named, s.some) refl

-- a text that is laid out as the report with its lines cut
record HasCutText (bye : ℕ) (report : Sheet) : Type 0 where
  bytes : List ℕ
  laid : IsLaidOutOf bytes bye (carrying (cut_of report) report)

laid_by : (utf8 : Bool) (all : List (List ℕ)) (bye : ℕ) (report : Sheet) → IsLaidOut utf8 all bye report
    → IsLaidOut utf8 (map (line_back utf8) all) bye (carrying (cut_of report) report)
laid_by utf8 all bye report r =
    let c = are_cut utf8 (cut_of report) (without_players utf8 all bye) report 1 all refl r.read in
    let carried : map (carried_line utf8) (map (line_back utf8) all) ≡ cut_of report =
    all_carried-cut utf8 all ∙ ap (λ b. map (option_map (line_back b)) (map (carried_line utf8) all)) (sym c.utf8_is)
    ∙ ap (λ (ls : List (Option (List ℕ))). map (option_map (line_back report.utf8)) ls) (sym c.kept) in
    record {
      read =
          ap (λ (ls : List (Option (List ℕ))). lines_onto (carrying ls (without_players utf8 all bye)) 1 (map (line_back utf8) all)) carried
          ∙ c.read;
      size = ap (sized (carrying (cut_of report) report)) (long-cut utf8 all) ∙ sized-carrying (cut_of report) report (has_too_many_rounds utf8 all) r.size;
      short = long-cut utf8 all ∙ r.short;
    }

cut_text : (bytes : List ℕ) (bye : ℕ) (report : Sheet) → IsLaidOutOf bytes bye report → HasCutText bye report
cut_text bytes bye report r =
    let body = without_marks bytes in
    let utf8 = is_utf8 body in
    let all = lines body in
    let cut = map (line_back utf8) all in
    let text = text_of cut in
    let c = are_cut utf8 (cut_of report) (without_players utf8 all bye) report 1 all refl r.read in
    let falls : lines text ≡ cut = lines-text cut (all_inside-cut utf8 all (lines-inside body)) in
    let plain : without_marks text ≡ text = no_mark text (mark-cut utf8 body all refl (without_marks-no_mark bytes)) in
    let same : is_utf8 text ≡ utf8 = utf8_lines text ∙ ap are_utf8 falls ∙ c.same ∙ sym (utf8_lines body) in
    let laid : IsLaidOut utf8 cut bye (carrying (cut_of report) report) = laid_by utf8 all bye report r in
    let laid' : IsLaidOut (is_utf8 text) (lines text) bye (carrying (cut_of report) report) =
    subst (λ b. IsLaidOut b (lines text) bye (carrying (cut_of report) report)) (sym same)
    (subst (λ (ls : List (List ℕ)). IsLaidOut utf8 ls bye (carrying (cut_of report) report)) (sym falls) laid) in
    record {
      bytes = text;
      laid = subst (λ (b : List ℕ). IsLaidOut (is_utf8 b) (lines b) bye (carrying (cut_of report) report)) (sym plain) laid';
    }

-- ---- players of whom some rounds stay

-- the cell of the round that is taken back names nobody
back_sound : (cell : Cell) → is_sound (cell_back cell) ≡ true
back_sound Blank = refl
back_sound (Bye Half) = refl
back_sound (Bye Full) = refl
back_sound (Bye Allocated) = refl
back_sound (Bye Zero) = refl
back_sound (Game opponent colour rated got) = refl
back_sound (Forfeit opponent colour won) = refl
back_sound (Unfinished opponent colour) = refl

front_sound : (n : ℕ) (cells : List Cell) → list_all is_sound cells ≡ true → list_all is_sound (take n cells) ≡ true
front_sound zero cells sound = refl
front_sound (suc n) [] sound = refl
front_sound (suc n) (cell ∷ rest) sound =
    let both = and_parts (is_sound cell) (list_all is_sound rest) sound in
    and_from (is_sound cell) (list_all is_sound (take n rest)) both.0 (front_sound n rest both.1)

turns_back : (utf8 : Bool) (bye n : ℕ) → n < MOST_ROUNDS → Turns utf8 (entry_back bye n)
turns_back utf8 bye n lt = record {
  start = λ entry. refl;
  line = λ entry. refl;
  left = λ entry. refl;
  right = λ entry. refl;
  sound = λ entry s.
      let cell = cell_back (cell_at entry.cells (n + 1)) in
      let cells = with_cell n cell (take n entry.cells) in
      let most : length cells ≤ max (n + 1) (length (take n entry.cells)) = length-with n cell (take n entry.cells) in
      let cut : length (cells_back n entry.cells) ≤ length cells = length_cut is_blank_cell cells in
      record {
        start = s.start;
        some = s.some;
        left = s.left;
        right = s.right;
        sound = all_cut is_blank_cell is_sound cells (all-with n cell (take n entry.cells) (back_sound (cell_at entry.cells (n + 1))) (front_sound n entry.cells s.sound));
        few = omega (arith, length-take n entry.cells);
        cut = without_last-twice is_blank_cell cells;
      };
}

-- ---- the rules on two players and on points

-- what is known of a report and of what comes of it
record IsBack (n : ℕ) (old new : Sheet) : Type 0 where
  players : (o : ℕ) → known new o ≡ known old o
  there : (o : ℕ) → StartAlike n (cells_of new.players o) (cells_of old.players o)
  played : rounds_played new ≡ n

there_fits : (n : ℕ) (old new : Sheet) (entry : Entry) → IsBack n old new → cells_fit old entry.start 1 entry.cells ≡ fits
    → (i : ℕ) → i < n → cell_fits new entry.start (1 + i) (get_or (cells_back n entry.cells) i Blank) ≡ fits
there_fits n old new entry b fit i lt =
    ap (cell_fits new entry.start (1 + i)) (back-there n i entry.cells lt) ∙ by (cases_lt i (length entry.cells))
  where
    same : (o : ℕ) → cell_in new o (1 + i) ≡ cell_in old o (1 + i)
    same o = (b.there o).same (1 + i - 1) (omega arith)

    by : (i < length entry.cells) ⊎ (length entry.cells ≤ i) → cell_fits new entry.start (1 + i) (get_or entry.cells i Blank) ≡ fits
    by (inl within) =
        fits-same old new entry.start (1 + i) (get_or entry.cells i Blank) b.players same
        ∙ cell_of-fit old entry.start 1 entry.cells i within fit
    by (inr past) = fits-none new entry.start (1 + i) (get_or entry.cells i Blank) (ap opponent_in_cell (get_or_past entry.cells i Blank past))

cells_again : (n : ℕ) (old new : Sheet) (entry : Entry) → IsBack n old new → cells_fit old entry.start 1 entry.cells ≡ fits → cells_fit new entry.start 1 (cells_back n entry.cells) ≡ fits
cells_again n old new entry b fit = cells_fit-from new entry.start 1 (cells_back n entry.cells) (λ i lt. by i (cases_lt i n))
  where
    by : (i : ℕ) → (i < n) ⊎ (n ≤ i) → cell_fits new entry.start (1 + i) (get_or (cells_back n entry.cells) i Blank) ≡ fits
    by i (inl lt) = there_fits n old new entry b fit i lt
    by i (inr le) =
        fits-none new entry.start (1 + i) (get_or (cells_back n entry.cells) i Blank)
        (no_opponent (get_or (cells_back n entry.cells) i Blank) ((ends-back n entry.cells).none i le))

points_again : (n : ℕ) (new : Sheet) (entry : Entry) → rounds_played new ≡ n → points_fit new (entry_back new.bye n entry) ≡ fits
unfolding points_fit
points_again n new entry played = by entry.points
  where
    same : sum_by (half_points new.bye) (take (rounds_played new) (cells_back n entry.cells)) ≡ sum_by (half_points new.bye) (take n entry.cells)
    same =
        ap (λ k. sum_by (half_points new.bye) (take k (cells_back n entry.cells))) played
        ∙ points-alike new.bye n (cells_back n entry.cells) entry.cells n (start-back n entry.cells) (omega arith)

    by : (o : Option ℕ)
        → option_map_or (λ points.
        cond ((points == sum_by (half_points new.bye) (take (rounds_played new) (cells_back n entry.cells))) || (points == sum_by (half_points new.bye) (cells_back n entry.cells))
        || (has_other_points new && nat_lt points 200)) (Ok tt) (Err (Points entry.start)))
        (option_map (λ _. sum_by (half_points new.bye) (take n entry.cells)) o) (Ok (tt {0})) ≡ fits
    by None = refl
    by (Some points) = rw (same, eq-self (sum_by (half_points new.bye) (take n entry.cells))) refl

players_again : (n : ℕ) (old new : Sheet) (entries : List Entry) → IsBack n old new → players_fit old entries ≡ fits → players_fit new (map (entry_back new.bye n) entries) ≡ fits
unfolding players_fit player_fits
players_again n old new [] b fit = refl
players_again n old new (entry ∷ entries) b fit =
    let outer = then_ok (player_fits old entry) (λ _. players_fit old entries) (tt {0}) fit in
    let inner = then_ok (cells_fit old entry.start 1 entry.cells) (λ _. points_fit old entry) (tt {0}) outer.1 in
    let cells : cells_fit new entry.start 1 (cells_back n entry.cells) ≡ fits = cells_again n old new entry b inner.1 in
    let points : points_fit new (entry_back new.bye n entry) ≡ fits = points_again n new entry b.played in
    rw (cells, points) (players_again n old new entries b outer.2)

-- ---- the whole

last_few : (cells : List Cell) → last_paired cells ≤ length cells
last_few [] = omega arith
last_few (cell ∷ rest) = by (last_paired rest) (is_paired cell) (last_few rest) (cases_lt 0 (last_paired rest))
  where
    by : (x : ℕ) (b : Bool) → x ≤ length rest → (0 < x) ⊎ (x ≤ 0) → cond (nat_lt 0 x) (x + 1) (cond b 1 0) ≤ suc (length rest)
    by x b le (inl lt) = rw (lt-ltb 0 x lt) (omega arith)
    by x true le (inr none) = rw (le-ltb 0 x none) (omega arith)
    by x false le (inr none) = rw (le-ltb 0 x none) (omega arith)

few_rounds : (utf8 : Bool) (entries : List Entry) → are_all_sound utf8 entries → last_paired_of entries ≤ MOST_ROUNDS
few_rounds utf8 [] sound = omega arith
few_rounds utf8 (entry ∷ entries) sound =
    let mine : last_paired entry.cells ≤ length entry.cells = last_few entry.cells in
    let few : length entry.cells ≤ MOST_ROUNDS = sound.0.few in
    let others : last_paired_of entries ≤ MOST_ROUNDS = few_rounds utf8 entries sound.1 in
    omega arith

all_start : (n : ℕ) (bye : ℕ) (entries : List Entry) → AllByRecursion (λ (entry : Entry). StartAlike n (entry_back bye n entry).cells entry.cells) entries
all_start n bye [] = tt
all_start n bye (entry ∷ rest) = (start-back n entry.cells, all_start n bye rest)

back_again : (bytes : List ℕ) (bye : ℕ) (report : Sheet) (n : ℕ) → bye ≤ 2 → verdict bytes bye ≡ Ok report → n < rounds_played report → rounds_played (taken_back report n) ≡ n
    → length (written (taken_back report n)) ≤ MOST_BYTES → verdict (written (taken_back report n)) report.bye ≡ Ok (taken_back report n)
back_again bytes bye report n worth e earlier played few =
    let a = accepted bytes bye report e in
    let sound = were_sound bytes bye report e in
    let rounds : rounds_played report ≤ MOST_ROUNDS = few_rounds report.utf8 report.players sound in
    let turn = entry_back report.bye n in
    let turns : Turns report.utf8 turn = turns_back report.utf8 report.bye n (omega arith) in
    let c = cut_text bytes bye report a.0 in
    let b : IsBack n report (taken_back report n) = record {
      players = λ o. known-turned report.utf8 turn report.players o turns;
      there = λ o. cells-alike n turn report.players o (λ entry. refl) (all_start n report.bye report.players);
      played = played;
    } in
    laid_again c.bytes bye (carrying (cut_of report) report) turn worth c.laid turns (players_again n report (taken_back report n) report.players b a.1) few

pub view_again : (bytes : List ℕ) (bye : ℕ) (report view : Sheet) (round : ℕ) → bye ≤ 2 → verdict bytes bye ≡ Ok report → before_round report round ≡ Some view
    → length (written view) ≤ MOST_BYTES → verdict (written view) report.bye ≡ Ok view
view_again bytes bye report view zero worth e found few = absurd (cc)
view_again bytes bye report view (suc n) worth e found few = by (which report view n found)
  where
    by : IsAsItIs report view n ⊎ IsTakenBack report view n → verdict (written view) report.bye ≡ Ok view
    by (inl same) =
        subst (λ (s : Sheet). verdict (written s) report.bye ≡ Ok s) (sym same.is)
        (round_trip bytes bye report worth e (subst (λ (s : Sheet). length (written s) ≤ MOST_BYTES) same.is few))
    by (inr back) =
        subst (λ (s : Sheet). verdict (written s) report.bye ≡ Ok s) (sym back.is)
        (back_again bytes bye report n worth e back.earlier back.played (subst (λ (s : Sheet). length (written s) ≤ MOST_BYTES) back.is few))
