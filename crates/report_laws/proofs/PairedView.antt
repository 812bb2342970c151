-- A round that `with_round` put into a report, taken back: what the next round is paired from is what it was.
--
-- The rounds that were paired before stay. In the round that is taken back, whom a board names has a blank cell, and whom none names was
-- absent, so the view says Z, H or F of them; no line XXZ of the view names anybody. So the same players are present (`absent-again`).
use Rattle.std.proofs.Common.{◌≡◌, ℕ, ◌+◌, ◌-◌, ◌<◌, ◌≤◌, Bool, true, false, not, ◌&&◌, ◌||◌, ◌==◌, nat_eq, nat_lt, cond, List, [], ◌∷◌, length, get_or, take, map, refl, sym, ap, ◌∙◌, arith, subst, add-one, Option, Some, None}
use Rattle.std.specs.Prelude.{sum_by}
use Rattle.std.specs.List.{AllByRecursion, list_any}
use Rattle.std.specs.Option.{option_map_or}
use Rattle.std.proofs.lemmas.Bool.{eqb-true, eq-eqb, ne_eqb, lt-ltb, or_left, or_right, false_from_ne_true, true≢false}
use Rattle.std.proofs.lemmas.List.Elements.{recursion_from_All}
use Rattle.std.proofs.lemmas.Simd.{map-map}
use Rattle.trf16_report.specs.Prelude.{Entry, Sheet, known, cells_of, half_points, is_paired, last_paired, last_paired_of, rounds_played, unfinished, unfinished_of, absent, is_absence, names_both, starts_of, HasOwnStarts, CanBePaired, named_by, cell_by, with_cell, cells_with, entry_with, with_round, cell_back, cells_back, entry_back, taken_back, before_round}
use Rattle.trf16_report.specs.declared.cell.Colour.TheVariants.{White, Black}
use Rattle.trf16_report.specs.declared.cell.Bye.TheVariants.{Half, Full, Allocated, Zero}
use Rattle.trf16_report.specs.declared.cell.Cell.{Cell}
use Rattle.trf16_report.specs.declared.cell.Cell.TheVariants.{Blank, Bye, Game, Forfeit, Unfinished}
use Rattle.trf16_report.specs.declared.kind.LineKind.TheVariants.{Xxa, Xxs, Rank}
use Rattle.trf16_report.proofs.BackLemmas.{HasLinesBack, some_back, nobody_absent, first_of-back, others_both}
use Rattle.trf16_writer.proofs.BoardLemmas.{eq-self, eq-sym, all_in}
use Rattle.trf16_laws.proofs.PairedRound.{given, with_cell-here, named_head, named_black, named_tail, cells-there, played_again}
use Rattle.trf16_writer.proofs.RoundLemmas.{starts-with}
use Rattle.dutch_player.specs.Prelude.{seats_of}
use Rattle.report_laws.specs.Boards.{NameAllPresent}
use Rattle.report_laws.specs.Fields.{GivesFieldOf}
use Rattle.report_laws.proofs.CellLemmas.{LookAlike, StartAlike, EndsUnpaired, ends_unpaired, paired-alike, unfinished-alike}
use Rattle.report_laws.proofs.FieldLemmas.{SaysAlike, TellsAlike, OpenAlike, facts-alike, seats-alike, played-alike, open-alike, cells-alike, points-alike, apart-alike}
use Rattle.report_laws.proofs.CellsBack.{ends-back, back-here, back-there}

-- ---- whom boards name

no_board : (start : ℕ) (board : ℕ × ℕ) (rest : List (ℕ × ℕ)) → (board.0 == start) ≡ false → (board.1 == start) ≡ false → list_any (nat_eq start) (named_by (board ∷ rest)) ≡ true
    → list_any (nat_eq start) (named_by rest) ≡ true
no_board start board rest white black is = by (board.1 == 0) is
  where
    by : (bye : Bool) → list_any (nat_eq start) (cond bye (board.0 ∷ named_by rest) (board.0 ∷ board.1 ∷ named_by rest)) ≡ true → list_any (nat_eq start) (named_by rest) ≡ true
    by true is = let no_white = eq-sym start board.0 ∙ white in rw no_white at is
    by false is =
        let no_white = eq-sym start board.0 ∙ white in
        let no_black = eq-sym start board.1 ∙ black in
        rw (no_white, no_black) at is

-- whom boards name has a cell
named_has : (boards : List (ℕ × ℕ)) (start : ℕ) → list_any (nat_eq start) (named_by boards) ≡ true → cell_by boards start ≡ None → ⊥
named_has [] start is none = absurd (true≢false (sym is))
named_has (board ∷ rest) start is none =
    by (board.0 == start) refl (board.1 == start) refl none (λ white black none'. named_has rest start (no_board start board rest white black is) none')
  where
    by : (white : Bool) → (board.0 == start) ≡ white → (black : Bool) → (board.1 == start) ≡ black
        → option_map_or (λ c. Some c) (cond white (Some (cond (board.1 == 0) (Bye Allocated) (Unfinished board.1 White))) (cond black (Some (Unfinished board.0 Black)) None)) (cell_by rest start) ≡ None
        → ((board.0 == start) ≡ false → (board.1 == start) ≡ false → cell_by rest start ≡ None → ⊥) → ⊥
    by true w black b none later = absurd (cc)
    by false w true b none later = absurd (cc)
    by false w false b none later = later w b none

-- whoever has a cell is named
has_named : (boards : List (ℕ × ℕ)) (start : ℕ) (cell : Cell) → (start == 0) ≡ false → cell_by boards start ≡ Some cell → list_any (nat_eq start) (named_by boards) ≡ true
has_named [] start cell player e = absurd (cc)
has_named (board ∷ rest) start cell player e =
    by (board.0 == start) refl (board.1 == start) refl e (λ e'. named_tail board rest start (has_named rest start cell player e'))
  where
    by : (white : Bool) → (board.0 == start) ≡ white → (black : Bool) → (board.1 == start) ≡ black
        → option_map_or (λ c. Some c) (cond white (Some (cond (board.1 == 0) (Bye Allocated) (Unfinished board.1 White))) (cond black (Some (Unfinished board.0 Black)) None)) (cell_by rest start) ≡ Some cell
        → (cell_by rest start ≡ Some cell → list_any (nat_eq start) (named_by (board ∷ rest)) ≡ true) → list_any (nat_eq start) (named_by (board ∷ rest)) ≡ true
    by true w black b e later = subst (λ n. list_any (nat_eq n) (named_by (board ∷ rest)) ≡ true) (eqb-true board.0 start w) (named_head board rest)
    by false w true b e later =
        let is : board.1 ≡ start = eqb-true board.1 start b in
        subst (λ n. list_any (nat_eq n) (named_by (board ∷ rest)) ≡ true) is (named_black board rest (ap (λ n. n == 0) is ∙ player))
    by false w false b e later = later e

-- ---- a player with a cell of the round, taken back

turn_of : ℕ → List (ℕ × ℕ) → ℕ → Entry → Entry
turn_of bye boards n entry = entry_back bye n (entry_with bye boards n entry)

start-turned : (bye : ℕ) (boards : List (ℕ × ℕ)) (n : ℕ) (entry : Entry) → (turn_of bye boards n entry).start ≡ entry.start
unfolding turn_of
start-turned bye boards n entry = refl

cells-turned : (bye : ℕ) (boards : List (ℕ × ℕ)) (n : ℕ) (entry : Entry) → (turn_of bye boards n entry).cells ≡ cells_back n (cells_with boards n entry)
unfolding turn_of
cells-turned bye boards n entry = refl

rounds-turned : (bye : ℕ) (boards : List (ℕ × ℕ)) (n : ℕ) (entry : Entry) → StartAlike n (turn_of bye boards n entry).cells entry.cells
rounds-turned bye boards n entry = record {
  same = λ i lt.
      ap (λ (cells : List Cell). get_or cells i Blank) (cells-turned bye boards n entry)
      ∙ back-there n i (cells_with boards n entry) lt ∙ cells-there boards n i entry (λ e. omega arith);
}

ends-turned : (bye : ℕ) (boards : List (ℕ × ℕ)) (n : ℕ) (entry : Entry) → EndsUnpaired n (turn_of bye boards n entry).cells
ends-turned bye boards n entry = subst (EndsUnpaired n) (sym (cells-turned bye boards n entry)) (ends-back n (cells_with boards n entry))

-- who was not paired was absent, and who was paired was not
unpaired_absent : (cell : Cell) → is_paired cell ≡ false → is_absence (cell_back cell) ≡ true
unpaired_absent Blank e = refl
unpaired_absent (Bye Half) e = refl
unpaired_absent (Bye Full) e = refl
unpaired_absent (Bye Allocated) e = absurd (cc)
unpaired_absent (Bye Zero) e = refl
unpaired_absent (Game opponent colour rated got) e = absurd (cc)
unpaired_absent (Forfeit opponent colour won) e = absurd (cc)
unpaired_absent (Unfinished opponent colour) e = absurd (cc)

paired_present : (cell : Cell) → is_paired cell ≡ true → is_absence (cell_back cell) ≡ false
paired_present Blank e = absurd (cc)
paired_present (Bye Half) e = absurd (cc)
paired_present (Bye Full) e = absurd (cc)
paired_present (Bye Allocated) e = refl
paired_present (Bye Zero) e = absurd (cc)
paired_present (Game opponent colour rated got) e = refl
paired_present (Forfeit opponent colour won) e = refl
paired_present (Unfinished opponent colour) e = refl

-- the cell of the round tells who is on no board
tells_absence : (boards : List (ℕ × ℕ)) (n : ℕ) (entry : Entry) → (entry.start == 0) ≡ false → last_paired entry.cells ≤ n
    → is_absence (get_or (cells_back n (cells_with boards n entry)) n Blank) ≡ not (list_any (nat_eq entry.start) (named_by boards))
tells_absence boards n entry player le =
    ap is_absence (back-here n (cells_with boards n entry)) ∙ by (cell_by boards entry.start) refl
  where
    by : (o : Option Cell) → cell_by boards entry.start ≡ o
        → is_absence (cell_back (get_or (option_map_or (λ cell. with_cell n cell entry.cells) o entry.cells) n Blank)) ≡ not (list_any (nat_eq entry.start) (named_by boards))
    by None e =
        unpaired_absent (get_or entry.cells n Blank) ((ends_unpaired n entry.cells le).none n (omega arith))
        ∙ ap not (sym (false_from_ne_true (list_any (nat_eq entry.start) (named_by boards)) (λ is. named_has boards entry.start is e)))
    by (Some cell) e =
        ap (λ c. is_absence (cell_back c)) (with_cell-here n cell entry.cells)
        ∙ paired_present cell (given boards entry.start cell e).paired ∙ ap not (sym (has_named boards entry.start cell player e))

-- ---- all players

-- what is known of each player of a report with so many rounds
record IsUpTo (n : ℕ) (entry : Entry) : Type 0 where
  player : (entry.start == 0) ≡ false
  last : last_paired entry.cells ≤ n

all_of : (P Q : Entry → Type 0) (entries : List Entry) → ((entry : Entry) → P entry → Q entry) → AllByRecursion P entries → AllByRecursion Q entries
all_of P Q [] more all = tt
all_of P Q (entry ∷ rest) more all = (more entry all.0, all_of P Q rest more all.1)

some_start : (n : ℕ) → 0 < n → (n == 0) ≡ false
some_start n lt = ne_eqb n 0 (λ e. omega arith)

up_to : (n : ℕ) (entries : List Entry) → last_paired_of entries ≤ n → AllByRecursion (λ start. (0 < start) × (start ≤ 9999)) (starts_of entries)
    → AllByRecursion (IsUpTo n) entries
up_to n [] le within = tt
up_to n (entry ∷ rest) le within = (record { player = some_start entry.start within.0.0; last = omega arith }, up_to n rest (omega arith) within.1)

-- the player with a start rank, of whom something is known
record IsFound (turn : Entry → Entry) (P : Entry → Type 0) (entries : List Entry) (start : ℕ) : Type 0 where
  entry : Entry
  is : entry.start ≡ start
  holds : P entry
  cells : cells_of (map turn entries) start ≡ (turn entry).cells

find : (turn : Entry → Entry) (P : Entry → Type 0) (entries : List Entry) (start : ℕ) → ((entry : Entry) → (turn entry).start ≡ entry.start) → AllByRecursion P entries
    → list_any (λ (entry : Entry). entry.start == start) entries ≡ true → IsFound turn P entries start
find turn P [] start keeps all is = absurd (true≢false (sym is))
find turn P (entry ∷ rest) start keeps all is =
    by (entry.start == start) refl is (λ is'. find turn P rest start keeps all.1 is')
  where
    at' : (b : Bool) → (entry.start == start) ≡ b → ((turn entry).start == start) ≡ b
    at' b e = ap (λ n. n == start) (keeps entry) ∙ e

    by : (here : Bool) → (entry.start == start) ≡ here → (here || list_any (λ (entry : Entry). entry.start == start) rest) ≡ true
        → (list_any (λ (entry : Entry). entry.start == start) rest ≡ true → IsFound turn P rest start) → IsFound turn P (entry ∷ rest) start
    by true e is later = record { entry = entry; is = eqb-true entry.start start e; holds = all.0; cells = rw (at' true e) refl }
    by false e is later =
        let f = later is in
        record { entry = f.entry; is = f.is; holds = f.holds; cells = rw (at' false e) f.cells }

opposite : (b c : Bool) → (b ≡ false → c ≡ true) → (c ≡ true → b ≡ false) → b ≡ not c
opposite true true f g = g refl
opposite true false f g = refl
opposite false true f g = refl
opposite false false f g = f refl

-- ---- the report with its round, taken back

-- what such a report is
record IsView (report : Sheet) (boards : List (ℕ × ℕ)) (view : Sheet) : Type 0 where
  bye : view.bye ≡ report.bye
  total : view.total ≡ report.total
  initial : view.initial ≡ report.initial
  players : view.players ≡ map (turn_of report.bye boards (rounds_played report)) report.players
  lines : HasLinesBack report view

players_are : (bye : ℕ) (boards : List (ℕ × ℕ)) (n : ℕ) (entries : List Entry) → map (entry_back bye n) (map (entry_with bye boards n) entries) ≡ map (turn_of bye boards n) entries
unfolding turn_of
players_are bye boards n entries = map-map (entry_back bye n) (entry_with bye boards n) entries

is_view : (report : Sheet) (boards : List (ℕ × ℕ)) → IsView report boards (taken_back (with_round boards report) (rounds_played report))
is_view report boards = record {
  bye = refl;
  total = refl;
  initial = refl;
  players = players_are report.bye boards (rounds_played report) report.players;
  lines = record { columns = refl; lines = refl };
}

-- what is known of a report and of the boards of its next round
record IsGood (boards : List (ℕ × ℕ)) (report : Sheet) : Type 0 where
  players : AllByRecursion (IsUpTo (rounds_played report)) report.players
  known : AllByRecursion (λ start. known report start ≡ true) (named_by boards)
  present : AllByRecursion (λ start. absent report start ≡ false) (named_by boards)
  all : NameAllPresent boards report

is_good : (boards : List (ℕ × ℕ)) (report : Sheet) → HasOwnStarts report → CanBePaired boards report → NameAllPresent boards report → IsGood boards report
is_good boards report own can all = record {
  players = up_to (rounds_played report) report.players (omega arith) (recursion_from_All (λ start. (0 < start) × (start ≤ 9999)) (starts_of report.players) own.within);
  known = recursion_from_All (λ start. known report start ≡ true) (named_by boards) can.players;
  present = recursion_from_All (λ start. absent report start ≡ false) (named_by boards) can.present;
  all = all;
}

rounds-again : (report : Sheet) (boards : List (ℕ × ℕ)) (view : Sheet) → IsView report boards view → IsGood boards report → rounds_played view ≡ rounds_played report
rounds-again report boards view v g =
    let n = rounds_played report in
    let turn = turn_of report.bye boards n in
    ap last_paired_of v.players
    ∙ played-alike turn report.players
    (all_of (IsUpTo n) (λ (entry : Entry). LookAlike is_paired (turn entry).cells entry.cells) report.players
    (λ entry up. paired-alike n (turn entry).cells entry.cells (rounds-turned report.bye boards n entry) (ends-turned report.bye boards n entry) (ends_unpaired n entry.cells up.last))
    g.players)

open-again : (report : Sheet) (boards : List (ℕ × ℕ)) (view : Sheet) → IsView report boards view → IsGood boards report → unfinished view ≡ unfinished report
open-again report boards view v g =
    let n = rounds_played report in
    let turn = turn_of report.bye boards n in
    ap unfinished_of v.players
    ∙ open-alike turn report.players
    (all_of (IsUpTo n) (λ (entry : Entry). OpenAlike entry (turn entry)) report.players
    (λ entry up. record {
      start = start-turned report.bye boards n entry;
      cells = unfinished-alike n (turn entry).cells entry.cells (rounds-turned report.bye boards n entry) (ends-turned report.bye boards n entry) (ends_unpaired n entry.cells up.last);
    })
    g.players)

-- the same players are absent
absent-again : (report : Sheet) (boards : List (ℕ × ℕ)) (view : Sheet) (start : ℕ) → IsView report boards view → IsGood boards report → known report start ≡ true
    → absent view start ≡ absent report start
absent-again report boards view start v g is =
    let n = rounds_played report in
    let turn = turn_of report.bye boards n in
    let f = find turn (IsUpTo n) report.players start (start-turned report.bye boards n) g.players is in
    let place : rounds_played view + 1 - 1 ≡ n = omega (arith, rounds-again report boards view v g) in
    let cells : cells_of view.players start ≡ cells_back n (cells_with boards n f.entry) =
    ap (λ (entries : List Entry). cells_of entries start) v.players ∙ f.cells ∙ cells-turned report.bye boards n f.entry in
    let named = list_any (nat_eq start) (named_by boards) in
    let cell : is_absence (get_or (cells_of view.players start) (rounds_played view + 1 - 1) Blank) ≡ not named =
    ap (λ i. is_absence (get_or (cells_of view.players start) i Blank)) place
    ∙ ap (λ (cs : List Cell). is_absence (get_or cs n Blank)) cells
    ∙ tells_absence boards n f.entry f.holds.player f.holds.last
    ∙ ap (λ s. not (list_any (nat_eq s) (named_by boards))) f.is in
    let was : absent report start ≡ not named = opposite (absent report start) named (g.all start is) (λ on. all_in (λ s. absent report s ≡ false) (named_by boards) start g.present on) in
    ap (λ b. b || is_absence (get_or (cells_of view.players start) (rounds_played view + 1 - 1) Blank)) (nobody_absent start report view v.lines) ∙ cell ∙ sym was

says-again : (report : Sheet) (boards : List (ℕ × ℕ)) (view : Sheet) → IsView report boards view → IsGood boards report → SaysAlike report view
says-again report boards view v g =
    let n = rounds_played report in
    let turn = turn_of report.bye boards n in
    record {
      bye = v.bye;
      played = rounds-again report boards view v g;
      points = λ start before le.
          ap (λ bye. sum_by (half_points bye) (take before (cells_of view.players start))) v.bye
          ∙ ap (λ (entries : List Entry). sum_by (half_points report.bye) (take before (cells_of entries start))) v.players
          ∙ points-alike report.bye n (cells_of (map turn report.players) start) (cells_of report.players start) before
          (cells-alike n turn report.players start (start-turned report.bye boards n)
          (all_of (IsUpTo n) (λ (entry : Entry). StartAlike n (turn entry).cells entry.cells) report.players (λ entry up. rounds-turned report.bye boards n entry) g.players))
          le;
      apart = apart-alike report view (λ a b. ap (λ t. not (a == b) && t) (some_back (names_both a b) (others_both a b) report view v.lines)) (ap starts_of v.players ∙ starts-with turn (start-turned report.bye boards n) report.players);
    }

seats-again : (report : Sheet) (boards : List (ℕ × ℕ)) (view : Sheet) → IsView report boards view → IsGood boards report → seats_of view view.players ≡ seats_of report report.players
seats-again report boards view v g =
    let n = rounds_played report in
    let turn = turn_of report.bye boards n in
    ap (seats_of view) v.players
    ∙ seats-alike report view turn report.players (says-again report boards view v g)
    (all_known report.players (λ entry is. record {
      start = start-turned report.bye boards n entry;
      cells = rounds-turned report.bye boards n entry;
      absent = absent-again report boards view entry.start v g is;
    }))
  where
    widen : (first : Entry) (entries some : List Entry) → AllByRecursion (λ (entry : Entry). list_any (λ (e : Entry). e.start == entry.start) entries ≡ true) some
        → AllByRecursion (λ (entry : Entry). list_any (λ (e : Entry). e.start == entry.start) (first ∷ entries) ≡ true) some
    widen first entries [] all = tt
    widen first entries (entry ∷ some) all = (or_right (first.start == entry.start) (list_any (λ (e : Entry). e.start == entry.start) entries) all.0, widen first entries some all.1)

    each_known : (entries : List Entry) → AllByRecursion (λ (entry : Entry). list_any (λ (e : Entry). e.start == entry.start) entries ≡ true) entries
    each_known [] = tt
    each_known (entry ∷ rest) =
        (or_left (entry.start == entry.start) (list_any (λ (e : Entry). e.start == entry.start) rest) (eq-self entry.start), widen entry rest rest (each_known rest))

    all_known : (entries : List Entry) → {P : Entry → Type 0} → ((entry : Entry) → list_any (λ (e : Entry). e.start == entry.start) entries ≡ true → P entry) → AllByRecursion P entries
    all_known entries {P} each = all_of (λ (entry : Entry). list_any (λ (e : Entry). e.start == entry.start) entries ≡ true) P entries each (each_known entries)

tells-again : (report : Sheet) (boards : List (ℕ × ℕ)) (view : Sheet) → IsView report boards view → IsGood boards report → TellsAlike report view
tells-again report boards view v g = record {
  total = v.total;
  initial = v.initial;
  played = rounds-again report boards view v g;
  unfinished = open-again report boards view v g;
  unsupported = first_of-back (Xxa ∷ Xxs ∷ Rank ∷ []) report view v.lines;
  seats = seats-again report boards view v g;
}

-- ---- the view is there

back_is : (sheet : Sheet) (n : ℕ) → rounds_played sheet ≡ n + 1 → rounds_played (taken_back sheet n) ≡ n → before_round sheet (n + 1) ≡ Some (taken_back sheet n)
back_is sheet n more same =
    ap (before_round sheet) (add-one n)
    ∙ by (n == rounds_played sheet) (ne_eqb n (rounds_played sheet) (λ e. omega arith)) (nat_lt n (rounds_played sheet)) (lt-ltb n (rounds_played sheet) (omega arith))
    (rounds_played (taken_back sheet n) == n) (eq-eqb (rounds_played (taken_back sheet n)) n same)
  where
    by : (last : Bool) → last ≡ false → (within : Bool) → within ≡ true → (next : Bool) → next ≡ true
        → cond last (Some sheet) (cond (within && next) (Some (taken_back sheet n)) None) ≡ Some (taken_back sheet n)
    by last l within w next x = rw (l, w, x) refl

pub field_back : (report : Sheet) (boards : List (ℕ × ℕ)) → HasOwnStarts report → CanBePaired boards report → NameAllPresent boards report → 0 < length boards
    → GivesFieldOf (before_round (with_round boards report) (rounds_played report + 1)) report
field_back report boards own can all some =
    let n = rounds_played report in
    let view = taken_back (with_round boards report) n in
    let v = is_view report boards in
    let g = is_good boards report own can all in
    let found : before_round (with_round boards report) (n + 1) ≡ Some view = back_is (with_round boards report) n (played_again boards report some g.known) (rounds-again report boards view v g) in
    subst (λ (o : Option Sheet). GivesFieldOf o report) (sym found) (facts-alike report view (tells-again report boards view v g))
