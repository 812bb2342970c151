-- A report with entries reads back from its canonical text.
--
-- Putting entries is a change of players as the round trip allows it (`Turns`): the new cells name players of the report, or the opponent who
-- stands there, in rounds that a report may have. The rules on two players are looked at again where entries are put, so what is left are
-- the points.
use Rattle.std.proofs.Common.{◌≡◌, ℕ, zero, suc, ◌-◌, ◌<◌, ◌≤◌, Bool, true, false, cond, ◌&&◌, ◌||◌, nat_lt, max, List, [], ◌∷◌, ◌++◌, length, get_or, map, take, Option, Some, None, Result, Ok, Err, refl, sym, ap, ◌∙◌, subst, arith}
use Rattle.std.specs.Prelude.{IfSome, ◌==◌, option_map, sum_by}
use Rattle.std.specs.List.{AllByRecursion, list_all, list_any}
use Rattle.std.specs.Option.{option_map_or}
use Rattle.std.proofs.lemmas.Bool.{and_parts, and_from, eqb-true, eqb-false, lt-ltb, true≢false}
use Rattle.std.proofs.lemmas.List.{get_or_past}
use Rattle.trf16_report.specs.Outcomes.{◌>>=◌}
use Rattle.trf16_report.specs.Prelude.{Entry, Sheet, all_cells_fit, cell_at, cells_fit, cells_of, half_points, has_other_points, is_blank_cell, known, last_paired, last_paired_of, opponent_in_cell, player_fits, players_fit, points_fit, rounds_played, verdict, verdict_unsummed, with_cell, without_last, written}
use Rattle.trf16_report.specs.declared.cell.Cell.{Cell}
use Rattle.trf16_report.specs.declared.cell.Cell.TheVariants.{Blank}
use Rattle.trf16_report.specs.declared.fault.Fault.{Fault}
use Rattle.trf16_report.specs.declared.limits.TheConstants.{MOST_BYTES, MOST_ROUNDS}
use Rattle.trf16_report.proofs.LineSteps.{turned}
use Rattle.trf16_writer.proofs.AcceptedReport.{IsLaidOutOf, accepted, rule_met}
use Rattle.trf16_writer.proofs.BoardLemmas.{eq-self}
use Rattle.trf16_laws.proofs.PairedRound.{all-with, length-with}
use Rattle.trf16_laws.proofs.WrittenCells.{is_sound}
use Rattle.trf16_laws.proofs.WrittenFields.{all_cut, are_small, length_cut, without_last-twice}
use Rattle.trf16_laws.proofs.WrittenPlayers.{IsSoundEntry}
use Rattle.trf16_laws.proofs.WrittenReport.{Turns, all_small, are_all_small, are_all_sound, laid_again, laid_is}
use Rattle.entries.specs.Prelude.{AreWithin, cell_after, cell_in_slot, cell_now, cells_with_new, entered, player_resummed, player_with_new, report_resummed, same_slot, second_of, with_entries, with_entry, with_new}
use Rattle.entries.specs.declared.entry.EntryOptions.{EntryOptions}
use Rattle.entries.specs.declared.entry.HandEntry.{HandEntry}
use Rattle.entries.specs.declared.entry.NewCell.{NewCell}
use Rattle.entries.specs.declared.entry.NewCells.{NewCells}
use Rattle.entries.specs.declared.entry.Slot.{Slot}
use Rattle.entry_laws.proofs.AllEntries.{all_within, entered_is}
use Rattle.entry_laws.proofs.OneEntry.{entry_is, listed, same_ok, then_ok}

abbrev fits : Result (Unit {0}) Fault
fits = Ok (tt {0})

-- ---- start ranks that can be written

-- a start rank of one to four digits
abbrev is_start : ℕ → Bool
is_start n = nat_lt 0 n && nat_lt n 10000

abbrev IsStart : ℕ → Type 0
IsStart n = is_start n ≡ true

sound_from : (cell : Cell) → IfSome (opponent_in_cell cell) IsStart → is_sound cell ≡ true
sound_from cell h = by (opponent_in_cell cell) h
  where
    by : (o : Option ℕ) → IfSome o IsStart → option_map_or (λ opponent. nat_lt 0 opponent && nat_lt opponent 10000) o true ≡ true
    by None h = refl
    by (Some n) h = h

sound_is : (cell : Cell) → is_sound cell ≡ true → IfSome (opponent_in_cell cell) IsStart
sound_is cell h = by (opponent_in_cell cell) h
  where
    by : (o : Option ℕ) → option_map_or (λ opponent. nat_lt 0 opponent && nat_lt opponent 10000) o true ≡ true → IfSome o IsStart
    by None h = tt
    by (Some n) h = h

start_is : (n : ℕ) → n < 10000 → (n == 0) ≡ false → IsStart n
start_is n few some =
    let zero : n ≡ 0 → ⊥ = eqb-false n 0 some in
    let positive : 0 < n = go n zero in
    and_from (nat_lt 0 n) (nat_lt n 10000) (lt-ltb 0 n positive) (lt-ltb n 10000 few)
  where
    go : (n : ℕ) → (n ≡ 0 → ⊥) → 0 < n
    go n h = omega (arith, h)

known_start : (utf8 : Bool) (entries : List Entry) (start : ℕ) → are_all_sound utf8 entries → list_any (λ (entry : Entry). entry.start == start) entries ≡ true → IsStart start
known_start utf8 [] start sound is = absurd (true≢false (sym is))
known_start utf8 (entry ∷ entries) start sound is = by (entry.start == start) refl is (known_start utf8 entries start sound.1)
  where
    by : (here : Bool) → (entry.start == start) ≡ here → (here || list_any (λ (entry : Entry). entry.start == start) entries) ≡ true
        → (list_any (λ (entry : Entry). entry.start == start) entries ≡ true → IsStart start) → IsStart start
    by true e is later = subst IsStart (eqb-true entry.start start e) (start_is entry.start sound.0.start sound.0.some)
    by false e is later = later is

sound_at : (cells : List Cell) (i : ℕ) → list_all is_sound cells ≡ true → is_sound (get_or cells i Blank) ≡ true
sound_at [] i all = ap is_sound (get_or_past [] i Blank (omega arith))
sound_at (cell ∷ rest) zero all = (and_parts (is_sound cell) (list_all is_sound rest) all).0
sound_at (cell ∷ rest) (suc i) all = sound_at rest i (and_parts (is_sound cell) (list_all is_sound rest) all).1

sound_cell : (utf8 : Bool) (entries : List Entry) (start round : ℕ) → are_all_sound utf8 entries → is_sound (cell_at (cells_of entries start) round) ≡ true
sound_cell utf8 [] start round sound = sound_at [] (round - 1) refl
sound_cell utf8 (entry ∷ entries) start round sound = by (entry.start == start) (sound_cell utf8 entries start round sound.1)
  where
    by : (here : Bool) → is_sound (cell_at (cells_of entries start) round) ≡ true → is_sound (cell_at (cond here entry.cells (cells_of entries start)) round) ≡ true
    by true later = sound_at entry.cells (round - 1) sound.0.sound
    by false later = later

-- ---- the new cells can be written

abbrev AreSound : List NewCell → Type 0
AreSound = AllByRecursion (λ new. IfSome (opponent_in_cell new.cell) IsStart)

sound-append : (xs ys : List NewCell) → AreSound xs → AreSound ys → AreSound (xs ++ ys)
sound-append [] ys sx sy = sy
sound-append (x ∷ xs) ys sx sy = (sx.0, sound-append xs ys sx.1 sy)

sound_after : (all : List NewCell) (slot : Slot) (cell : Cell) → AreSound all → IfSome (opponent_in_cell cell) IsStart → IfSome (opponent_in_cell (cell_after all slot cell)) IsStart
sound_after [] slot cell sound here = here
sound_after (new ∷ rest) slot cell sound here = sound_after rest slot (cond (same_slot new.slot slot) new.cell cell) sound.1 (by (same_slot new.slot slot))
  where
    by : (b : Bool) → IfSome (opponent_in_cell (cond b new.cell cell)) IsStart
    by true = sound.0
    by false = here

sound_more : (options : EntryOptions) (sheet : Sheet) (so_far more : List NewCell) (entry : HandEntry) → are_all_sound sheet.utf8 sheet.players
    → with_entry options sheet so_far entry ≡ Ok more → AreSound so_far → AreSound more
sound_more options sheet so_far more entry players e sound =
    let i = entry_is options sheet so_far more entry e in
    let at : Slot = record { player = entry.player; round = i.round } in
    let there : IfSome (opponent_in_cell (cell_now sheet so_far at)) IsStart =
    sound_after so_far at (cell_in_slot sheet at) sound (sound_is (cell_in_slot sheet at) (sound_cell sheet.utf8 sheet.players entry.player i.round players)) in
    let opponents = i.put.opponents is_start (known_start sheet.utf8 sheet.players entry.player players i.player_known) (second (second_of entry.event) i.second_known) there in
    subst AreSound (sym i.more_is) (sound-append so_far (listed i.new) sound (by i.new i.new.second opponents.0 opponents.1))
  where
    second : (o : Option ℕ) → IfSome o (λ black. known sheet black ≡ true) → IfSome o IsStart
    second None h = tt
    second (Some black) h = known_start sheet.utf8 sheet.players black players h

    by : (new : NewCells) (o : Option NewCell) → IfSome (opponent_in_cell new.first.cell) IsStart → IfSome o (λ second. IfSome (opponent_in_cell second.cell) IsStart)
        → AreSound (new.first ∷ option_map_or (λ second. second ∷ []) o [])
    by new None first h = (first, tt)
    by new (Some second) first h = (first, (h, tt))

all_sound : (options : EntryOptions) (sheet : Sheet) (so_far all : List NewCell) (entries : List HandEntry) → are_all_sound sheet.utf8 sheet.players
    → with_entries options sheet so_far entries ≡ Ok all → AreSound so_far → AreSound all
unfolding with_entries
all_sound options sheet so_far all [] players e sound = subst AreSound (same_ok so_far all e) sound
all_sound options sheet so_far all (entry ∷ rest) players e sound =
    let one = then_ok (with_entry options sheet so_far entry) (λ more. with_entries options sheet more rest) all e in
    all_sound options sheet one.0 all rest players one.2 (sound_more options sheet so_far one.0 entry players one.1 sound)

-- ---- a player with new cells can be written

cells_sound : (all : List NewCell) (start : ℕ) (cells : List Cell) → AreSound all → list_all is_sound cells ≡ true → list_all is_sound (cells_with_new all start cells) ≡ true
cells_sound [] start cells sound h = h
cells_sound (new ∷ rest) start cells sound h = cells_sound rest start (cond (new.slot.player == start) (with_cell (new.slot.round - 1) new.cell cells) cells) sound.1 (by (new.slot.player == start))
  where
    by : (b : Bool) → list_all is_sound (cond b (with_cell (new.slot.round - 1) new.cell cells) cells) ≡ true
    by true = all-with (new.slot.round - 1) new.cell cells (sound_from new.cell sound.0) h
    by false = h

cells_few : (all : List NewCell) (start : ℕ) (cells : List Cell) → AreWithin all → length cells ≤ MOST_ROUNDS → length (cells_with_new all start cells) ≤ MOST_ROUNDS
cells_few [] start cells within h = h
cells_few (new ∷ rest) start cells within h = cells_few rest start (cond (new.slot.player == start) (with_cell (new.slot.round - 1) new.cell cells) cells) within.1 (by (new.slot.player == start))
  where
    by : (b : Bool) → length (cond b (with_cell (new.slot.round - 1) new.cell cells) cells) ≤ MOST_ROUNDS
    by true =
        let longer = length-with (new.slot.round - 1) new.cell cells in
        let some : 0 < new.slot.round = within.0.0 in
        let few : new.slot.round ≤ MOST_ROUNDS = within.0.1 in
        omega arith
    by false = h

new_sound : (utf8 : Bool) (all : List NewCell) (entry : Entry) → AreWithin all → AreSound all → IsSoundEntry utf8 entry → IsSoundEntry utf8 (player_with_new all entry)
new_sound utf8 all entry within sound s =
    let cells = cells_with_new all entry.start entry.cells in
    let few : length cells ≤ MOST_ROUNDS = cells_few all entry.start entry.cells within s.few in
    let cut : length (without_last is_blank_cell cells) ≤ length cells = length_cut is_blank_cell cells in
    record {
      start = s.start;
      some = s.some;
      left = s.left;
      right = s.right;
      sound = all_cut is_blank_cell is_sound cells (cells_sound all entry.start entry.cells sound s.sound);
      few = omega arith;
      cut = without_last-twice is_blank_cell cells;
    }

turns_new : (utf8 : Bool) (all : List NewCell) → AreWithin all → AreSound all → Turns utf8 (player_with_new all)
turns_new utf8 all within sound = record {
  start = λ entry. refl;
  line = λ entry. refl;
  left = λ entry. refl;
  right = λ entry. refl;
  sound = λ entry s. new_sound utf8 all entry within sound s;
}

-- with new cells and summed points
abbrev turn_summed : ℕ → ℕ → List NewCell → Entry → Entry
turn_summed bye rounds all entry = player_resummed bye rounds (player_with_new all entry)

turns_summed : (utf8 : Bool) (bye rounds : ℕ) (all : List NewCell) → AreWithin all → AreSound all → Turns utf8 (turn_summed bye rounds all)
turns_summed utf8 bye rounds all within sound = record {
  start = λ entry. refl;
  line = λ entry. refl;
  left = λ entry. refl;
  right = λ entry. refl;
  sound = λ entry s.
      let n = new_sound utf8 all entry within sound s in
      record { start = n.start; some = n.some; left = n.left; right = n.right; sound = n.sound; few = n.few; cut = n.cut };
}

-- ---- the points

players_from : (new : Sheet) (entries : List Entry) → all_cells_fit new entries ≡ fits → AllByRecursion (λ entry. points_fit new entry ≡ fits) entries → players_fit new entries ≡ fits
unfolding players_fit player_fits all_cells_fit
players_from new [] cells points = refl
players_from new (entry ∷ rest) cells points =
    let one = cells_step (cells_fit new entry.start 1 entry.cells) (all_cells_fit new rest) cells in
    rw (one.0, points.0) (players_from new rest one.1 points.1)
  where
    cells_step : (r s : Result (Unit {0}) Fault) → (r >>= λ _. s) ≡ Ok (tt {0}) → (r ≡ Ok (tt {0})) × (s ≡ Ok (tt {0}))
    cells_step (Ok x) s e = (refl, e)
    cells_step (Err fault) s e = absurd (cc)

summed_points : (new : Sheet) (rounds : ℕ) (all : List NewCell) (entries : List Entry) → rounds_played new ≡ rounds
    → AllByRecursion (λ entry. points_fit new entry ≡ fits) (map (turn_summed new.bye rounds all) entries)
unfolding points_fit
summed_points new rounds all [] played = tt
summed_points new rounds all (entry ∷ entries) played = (one entry.points, summed_points new rounds all entries played)
  where
    one : (points : Option ℕ)
        → points_fit new (record (player_with_new all entry) {
          points = option_map
              (λ _. sum_by (half_points new.bye) (take rounds (player_with_new all entry).cells)) points;
        }) ≡ fits
    one None = refl
    one (Some n) = rw (played, eq-self (sum_by (half_points new.bye) (take rounds (player_with_new all entry).cells))) refl

small_points : (new : Sheet) (all : List NewCell) (entries : List Entry) → has_other_points new ≡ true → are_all_small entries
    → AllByRecursion (λ entry. points_fit new entry ≡ fits) (map (player_with_new all) entries)
unfolding points_fit
small_points new all [] other small = tt
small_points new all (entry ∷ entries) other small = (one entry.points small.0, small_points new all entries other small.1)
  where
    or_last : (a b : Bool) → (a || b || true) ≡ true
    or_last true b = refl
    or_last false true = refl
    or_last false false = refl

    one : (points : Option ℕ) → are_small points → points_fit new (record (player_with_new all entry) { points = points }) ≡ fits
    one None few = refl
    one (Some n) few = rw (other, lt-ltb n 200 few, or_last (n == sum_by (half_points new.bye) (take (rounds_played new) (player_with_new all entry).cells)) (n == sum_by (half_points new.bye) (player_with_new all entry).cells)) refl

-- ---- the whole

map-map : (f g : Entry → Entry) (xs : List Entry) → map f (map g xs) ≡ map (λ x. f (g x)) xs
map-map f g [] = refl
map-map f g (x ∷ xs) = ap (λ (ys : List Entry). f (g x) ∷ ys) (map-map f g xs)

-- the report in which points are summed
summed_is : (all : List NewCell) (sheet : Sheet) → has_other_points sheet ≡ false
    → report_resummed (with_new all sheet) ≡ turned (turn_summed sheet.bye (rounds_played (with_new all sheet)) all) sheet
summed_is all sheet other =
    rw other (ap (λ (ps : List Entry). record sheet { players = ps }) (map-map (player_resummed sheet.bye (rounds_played (with_new all sheet))) (player_with_new all) sheet.players))

-- the report in which they stay
unsummed_is : (all : List NewCell) (sheet : Sheet) → has_other_points sheet ≡ true → report_resummed (with_new all sheet) ≡ turned (player_with_new all) sheet
unsummed_is all sheet other = rw other refl

played_same : (bye rounds : ℕ) (all : List NewCell) (entries : List Entry)
    → last_paired_of (map (turn_summed bye rounds all) entries) ≡ last_paired_of (map (player_with_new all) entries)
played_same bye rounds all [] = refl
played_same bye rounds all (entry ∷ entries) = ap (λ n. max (last_paired (player_with_new all entry).cells) n) (played_same bye rounds all entries)

again_summed : (bytes : List ℕ) (bye : ℕ) (options : EntryOptions) (entries : List HandEntry) (sheet new : Sheet) → bye ≤ 2 → IsLaidOutOf bytes bye sheet
    → has_other_points sheet ≡ false → entered options entries sheet ≡ Ok new → length (written new) ≤ MOST_BYTES → verdict (written new) sheet.bye ≡ Ok new
again_summed bytes bye options entries sheet new worth laid other e few =
    let players = (laid_is bytes bye sheet laid).sound in
    let i = entered_is options entries sheet new e in
    let within = all_within options sheet [] i.all entries i.put tt in
    let sound = all_sound options sheet [] i.all entries players i.put tt in
    let rounds = rounds_played (with_new i.all sheet) in
    let turn : Entry → Entry = turn_summed sheet.bye rounds i.all in
    let same : turned turn sheet ≡ new = sym (summed_is i.all sheet other) ∙ i.is in
    let cells : all_cells_fit (turned turn sheet) (map turn sheet.players) ≡ fits = subst (λ (s : Sheet). all_cells_fit s s.players ≡ Ok (tt {0})) (sym same) i.fit in
    let fit = players_from (turned turn sheet) (map turn sheet.players) cells
    (summed_points (turned turn sheet) rounds i.all sheet.players (played_same sheet.bye rounds i.all sheet.players)) in
    subst (λ (s : Sheet). verdict (written s) sheet.bye ≡ Ok s) same
    (laid_again bytes bye sheet turn worth laid (turns_summed sheet.utf8 sheet.bye rounds i.all within sound) fit (subst (λ (s : Sheet). length (written s) ≤ MOST_BYTES) (sym same) few))

again_kept : (bytes : List ℕ) (bye : ℕ) (options : EntryOptions) (entries : List HandEntry) (sheet new : Sheet) → bye ≤ 2 → IsLaidOutOf bytes bye sheet
    → players_fit sheet sheet.players ≡ Ok (tt {0}) → has_other_points sheet ≡ true → entered options entries sheet ≡ Ok new → length (written new) ≤ MOST_BYTES
    → verdict (written new) sheet.bye ≡ Ok new
again_kept bytes bye options entries sheet new worth laid was other e few =
    let l = laid_is bytes bye sheet laid in
    let i = entered_is options entries sheet new e in
    let within = all_within options sheet [] i.all entries i.put tt in
    let sound = all_sound options sheet [] i.all entries l.sound i.put tt in
    let turn : Entry → Entry = player_with_new i.all in
    let same : turned turn sheet ≡ new = sym (unsummed_is i.all sheet other) ∙ i.is in
    let cells : all_cells_fit (turned turn sheet) (map turn sheet.players) ≡ fits = subst (λ (s : Sheet). all_cells_fit s s.players ≡ Ok (tt {0})) (sym same) i.fit in
    let small = all_small sheet.utf8 sheet sheet.players tt (subst (λ b. b ≤ 2) (sym l.bye_is) worth) l.sound was in
    let fit = players_from (turned turn sheet) (map turn sheet.players) cells (small_points (turned turn sheet) i.all sheet.players other small) in
    subst (λ (s : Sheet). verdict (written s) sheet.bye ≡ Ok s) same
    (laid_again bytes bye sheet turn worth laid (turns_new sheet.utf8 i.all within sound) fit (subst (λ (s : Sheet). length (written s) ≤ MOST_BYTES) (sym same) few))

by_its_bye : (bytes : List ℕ) (bye : ℕ) (sheet new : Sheet) → IsLaidOutOf bytes bye sheet → verdict (written new) sheet.bye ≡ Ok new → verdict (written new) bye ≡ Ok new
by_its_bye bytes bye sheet new laid e = subst (λ b. verdict (written new) b ≡ Ok new) (laid_is bytes bye sheet laid).bye_is e

laid_unsummed : (bytes : List ℕ) (bye : ℕ) (report : Sheet) → verdict_unsummed bytes bye ≡ Ok report → IsLaidOutOf bytes bye report
unfolding verdict_unsummed
laid_unsummed bytes bye report e = (rule_met bytes bye report (λ sheet. all_cells_fit sheet sheet.players) e).0

pub summed_again : (bytes : List ℕ) (bye : ℕ) (options : EntryOptions) (entries : List HandEntry) (sheet new : Sheet) → bye ≤ 2 → verdict_unsummed bytes bye ≡ Ok sheet
    → has_other_points sheet ≡ false → entered options entries sheet ≡ Ok new → length (written new) ≤ MOST_BYTES → verdict (written new) bye ≡ Ok new
summed_again bytes bye options entries sheet new worth read other e few =
    let laid = laid_unsummed bytes bye sheet read in
    by_its_bye bytes bye sheet new laid (again_summed bytes bye options entries sheet new worth laid other e few)

pub accepted_again : (bytes : List ℕ) (bye : ℕ) (options : EntryOptions) (entries : List HandEntry) (sheet new : Sheet) → bye ≤ 2 → verdict bytes bye ≡ Ok sheet
    → entered options entries sheet ≡ Ok new → length (written new) ≤ MOST_BYTES → verdict (written new) bye ≡ Ok new
accepted_again bytes bye options entries sheet new worth read e few =
    let was = accepted bytes bye sheet read in
    by_its_bye bytes bye sheet new was.0 (by was (has_other_points sheet) refl)
  where
    by : IsLaidOutOf bytes bye sheet × (players_fit sheet sheet.players ≡ Ok tt) → (other : Bool) → has_other_points sheet ≡ other → verdict (written new) sheet.bye ≡ Ok new
    by was true is = again_kept bytes bye options entries sheet new worth was.0 was.1 is e few
    by was false is = again_summed bytes bye options entries sheet new worth was.0 is e few
