-- What the next round is paired from, where two reports say the same of the rounds that were paired and of who is present.
--
-- A player's seat comes from the cells of the rounds that were paired, from the scores of the opponents, and from who is kept apart.
-- So two reports whose players are the same but for blank cells behind the last round, for points fields and for later cells have the
-- same seats, where the same players are absent.
use Rattle.std.proofs.Common.{◌≡◌, ℕ, ◌+◌, ◌-◌, ◌≤◌, Bool, true, false, not, cond, ◌==◌, nat_lt, max, List, [], ◌∷◌, take, map, Option, Some, None, Result, Ok, Err, refl, sym, ap, ◌∙◌, arith}
use Rattle.std.specs.Prelude.{sum_by, option_map}
use Rattle.std.specs.List.{AllByRecursion, filter}
use Rattle.std.specs.Option.{ok_or, option_map_or}
use Rattle.std.proofs.lemmas.List.Elements.{filter_agree}
use Rattle.trf16_report.specs.declared.cell.Colour.{Colour}
use Rattle.trf16_report.specs.declared.cell.Cell.{Cell}
use Rattle.trf16_report.specs.Prelude.{Entry, Sheet, cell_at, cells_of, half_points, points_upto, is_paired, last_paired, last_paired_of, rounds_played, is_unfinished, first_unfinished, unfinished, unfinished_of, absent, apart, apart_from, starts_of}
use Rattle.trf16_report.specs.Outcomes.{◌>>=◌}
use Rattle.dutch_player.specs.declared.float.Float.{Float}
use Rattle.dutch_player.specs.declared.float.Float.TheVariants.{Down}
use Rattle.dutch_player.specs.declared.fault.FieldFault.{FieldFault}
use Rattle.dutch_player.specs.declared.fault.FieldFault.TheVariants.{Unfinished, Unsupported, RoundsUnknown, RoundsOver}
use Rattle.dutch_player.specs.Prelude.{Facts, SeatFacts, seats_by_rank, score, colours_played, opponents, may_bye, bars_bye, colour_played, opponent_played, float_between, float_by, float_in, seat_of, seats_of, initial_of, total_of, unsupported, fault_if, total_for, facts_of}
use Rattle.report_laws.proofs.CellLemmas.{LookAlike, AreAlike, look_alike, sum-alike, kept-alike, reversed-alike, any-alike, last-alike, first-alike, StartAlike, taken-alike}

-- ---- a seat

-- what two reports say alike of the rounds that were paired
pub record SaysAlike (old new : Sheet) : Type 0 where
  pub bye : new.bye ≡ old.bye
  pub played : rounds_played new ≡ rounds_played old
  pub points : (start before : ℕ) → before ≤ rounds_played old → points_upto new start before ≡ points_upto old start before
  pub apart : (start : ℕ) → apart_from new start ≡ apart_from old start

score-alike : (bye bye' : ℕ) (xs ys : List Cell) → bye ≡ bye' → AreAlike xs ys → score bye xs ≡ score bye' ys
score-alike bye bye' xs ys e same =
    sum-alike (half_points bye) refl xs ys (look_alike (half_points bye) xs ys same) ∙ ap (λ n. score n ys) e

front-alike : (n : ℕ) (xs ys : List Cell) → AreAlike xs ys → AreAlike (take n xs) (take n ys)
front-alike n xs ys same = taken-alike n n xs ys (omega arith) (record { same = λ i lt. same i })

by-alike : (old new : Sheet) (xs ys : List Cell) (before : ℕ) (cell : Cell) → SaysAlike old new → AreAlike xs ys → before ≤ rounds_played old
    → float_by new xs before cell ≡ float_by old ys before cell
by-alike old new xs ys before cell says same le = by (opponent_played cell)
  where
    by : (o : Option ℕ)
        → option_map_or (λ opponent. float_between (score new.bye (take before xs)) (points_upto new opponent before)) o (Some Down)
        ≡ option_map_or (λ opponent. float_between (score old.bye (take before ys)) (points_upto old opponent before)) o (Some Down)
    by None = refl
    by (Some opponent) =
        ap (λ n. float_between n (points_upto new opponent before)) (score-alike new.bye old.bye (take before xs) (take before ys) says.bye (front-alike before xs ys same))
        ∙ ap (float_between (score old.bye (take before ys))) (says.points opponent before le)

float-alike : (old new : Sheet) (xs ys : List Cell) (round : ℕ) → SaysAlike old new → AreAlike xs ys → round ≤ rounds_played old
    → float_in new xs round ≡ float_in old ys round
float-alike old new xs ys round says same le =
    ap (λ (f : Option Float). cond (round == 0) None f)
    (by-alike old new xs ys (round - 1) (cell_at xs round) says same (omega arith) ∙ ap (float_by old ys (round - 1)) (same (round - 1)))

seat-same : {start start' score score' : ℕ} {colours colours' : List Colour} {met met' apart apart' : List ℕ} {latest latest' earlier earlier' : Option Float} {may may' : Bool}
    → start ≡ start' → score ≡ score' → colours ≡ colours' → met ≡ met' → apart ≡ apart' → latest ≡ latest' → earlier ≡ earlier' → may ≡ may'
    → ◌≡◌ {A = SeatFacts} (record { start = start; score = score; played = colours; opponents = met; apart = apart; latest = latest; earlier = earlier; may_bye = may })
    (record { start = start'; score = score'; played = colours'; opponents = met'; apart = apart'; latest = latest'; earlier = earlier'; may_bye = may' })
seat-same a b c d e f g h = cc

-- a player's seat, by the rounds that were paired
abbrev seat_by : Sheet → Entry → ℕ → SeatFacts
seat_by sheet entry rounds = record {
  start = entry.start;
  score = score sheet.bye (take rounds entry.cells);
  played = colours_played (take rounds entry.cells);
  opponents = opponents (take rounds entry.cells);
  apart = apart_from sheet entry.start;
  latest = float_in sheet (take rounds entry.cells) rounds;
  earlier = float_in sheet (take rounds entry.cells) (rounds - 1);
  may_bye = may_bye (take rounds entry.cells);
}

seat_is : (sheet : Sheet) (entry : Entry) → seat_of sheet entry ≡ seat_by sheet entry (rounds_played sheet)
unfolding seat_of
seat_is sheet entry = refl

by-rounds : (old new : Sheet) (entry entry' : Entry) (rounds : ℕ) → SaysAlike old new → rounds ≤ rounds_played old → entry'.start ≡ entry.start
    → StartAlike rounds entry'.cells entry.cells → seat_by new entry' rounds ≡ seat_by old entry rounds
by-rounds old new entry entry' rounds says le start cells =
    let xs = take rounds entry'.cells in
    let ys = take rounds entry.cells in
    let same : AreAlike xs ys = taken-alike rounds rounds entry'.cells entry.cells (omega arith) cells in
    seat-same start
    (score-alike new.bye old.bye xs ys says.bye same)
    (reversed-alike colour_played refl xs ys (look_alike colour_played xs ys same))
    (kept-alike opponent_played refl xs ys (look_alike opponent_played xs ys same))
    (ap (apart_from new) start ∙ says.apart entry.start)
    (float-alike old new xs ys rounds says same le)
    (float-alike old new xs ys (rounds - 1) says same (omega arith))
    (ap not (any-alike bars_bye refl xs ys (look_alike bars_bye xs ys same)))

seat-alike : (old new : Sheet) (entry entry' : Entry) → SaysAlike old new → entry'.start ≡ entry.start → StartAlike (rounds_played old) entry'.cells entry.cells
    → seat_of new entry' ≡ seat_of old entry
seat-alike old new entry entry' says start cells =
    seat_is new entry' ∙ ap (seat_by new entry') says.played ∙ by-rounds old new entry entry' (rounds_played old) says (omega arith) start cells ∙ sym (seat_is old entry)

-- ---- the seats

-- a player who is changed says the same of the rounds that were paired, and is as present as before
pub record StaysAlike (old new : Sheet) (entry entry' : Entry) : Type 0 where
  pub start : entry'.start ≡ entry.start
  pub cells : StartAlike (rounds_played old) entry'.cells entry.cells
  pub absent : absent new entry.start ≡ absent old entry.start

one_seat : {a a' : Bool} {seat seat' : SeatFacts} {rest rest' : List SeatFacts} → a ≡ a' → seat ≡ seat' → rest ≡ rest' → cond a rest (seat ∷ rest) ≡ cond a' rest' (seat' ∷ rest')
one_seat e f g = cc

pub seats-alike : (old new : Sheet) (turn : Entry → Entry) (entries : List Entry) → SaysAlike old new
    → AllByRecursion (λ (entry : Entry). StaysAlike old new entry (turn entry)) entries → seats_of new (map turn entries) ≡ seats_of old entries
seats-alike old new turn [] says all = refl
seats-alike old new turn (entry ∷ rest) says all =
    let here : StaysAlike old new entry (turn entry) = all.0 in
    one_seat (ap (absent new) here.start ∙ here.absent) (seat-alike old new entry (turn entry) says here.start here.cells)
    (seats-alike old new turn rest says all.1)

-- ---- what the next round is paired from

-- all that a report says of its next round
pub record TellsAlike (old new : Sheet) : Type 0 where
  pub total : new.total ≡ old.total
  pub initial : new.initial ≡ old.initial
  pub played : rounds_played new ≡ rounds_played old
  pub unfinished : unfinished new ≡ unfinished old
  pub unsupported : unsupported new ≡ unsupported old
  pub seats : seats_of new new.players ≡ seats_of old old.players

abbrev total_by : Option (ℕ × ℕ) → Option ℕ → Option ℕ → ℕ → Result ℕ FieldFault
total_by open_game line named rounds =
    fault_if (option_map (λ at'. Unfinished at'.0 at'.1) open_game) >>= λ _.
    fault_if (option_map (λ n. Unsupported n) line) >>= λ _.
    ok_or named RoundsUnknown >>= λ total.
    cond (nat_lt total (rounds + 1)) (Err RoundsOver) (Ok total)

total_is : (sheet : Sheet) (asked : Option ℕ) → total_for sheet asked ≡ total_by (unfinished sheet) (unsupported sheet) (total_of sheet asked) (rounds_played sheet)
unfolding total_for
total_is sheet asked = refl

total-alike : (old new : Sheet) (asked : Option ℕ) → TellsAlike old new → total_for new asked ≡ total_for old asked
total-alike old new asked tells =
    total_is new asked
    ∙ ap (λ (o : Option (ℕ × ℕ)). total_by o (unsupported new) (total_of new asked) (rounds_played new)) tells.unfinished
    ∙ ap (λ (o : Option ℕ). total_by (unfinished old) o (total_of new asked) (rounds_played new)) tells.unsupported
    ∙ ap (λ (o : Option ℕ). total_by (unfinished old) (unsupported old) o (rounds_played new)) (named asked)
    ∙ ap (total_by (unfinished old) (unsupported old) (total_of old asked)) tells.played
    ∙ sym (total_is old asked)
  where
    named : (asked : Option ℕ) → total_of new asked ≡ total_of old asked
    named None = tells.total
    named (Some n) = refl

abbrev facts_by : Result ℕ FieldFault → List SeatFacts → ℕ → Colour → Result Facts FieldFault
facts_by total seats rounds initial = total >>= λ total. Ok (record { seats = seats_by_rank seats; round = rounds + 1; total = total; initial = initial })

facts_is : (sheet : Sheet) (asked : Option ℕ) (initial : Option Colour)
    → facts_of sheet asked initial ≡ facts_by (total_for sheet asked) (seats_of sheet sheet.players) (rounds_played sheet) (initial_of sheet initial)
unfolding facts_of
facts_is sheet asked initial = refl

pub facts-alike : (old new : Sheet) → TellsAlike old new → (asked : Option ℕ) (initial : Option Colour) → facts_of new asked initial ≡ facts_of old asked initial
facts-alike old new tells asked initial =
    facts_is new asked initial
    ∙ ap (λ (t : Result ℕ FieldFault). facts_by t (seats_of new new.players) (rounds_played new) (initial_of new initial)) (total-alike old new asked tells)
    ∙ ap (λ (seats : List SeatFacts). facts_by (total_for old asked) seats (rounds_played new) (initial_of new initial)) tells.seats
    ∙ ap (λ n. facts_by (total_for old asked) (seats_of old old.players) n (initial_of new initial)) tells.played
    ∙ ap (facts_by (total_for old asked) (seats_of old old.players) (rounds_played old)) (first initial)
    ∙ sym (facts_is old asked initial)
  where
    first : (initial : Option Colour) → initial_of new initial ≡ initial_of old initial
    first None = ap (λ (c : Option Colour). initial_of (record new { initial = c }) None) tells.initial
    first (Some colour) = refl

-- ---- players who are changed

pub played-alike : (turn : Entry → Entry) (entries : List Entry) → AllByRecursion (λ (entry : Entry). LookAlike is_paired (turn entry).cells entry.cells) entries
    → last_paired_of (map turn entries) ≡ last_paired_of entries
played-alike turn [] all = refl
played-alike turn (entry ∷ rest) all =
    ap (λ n. max n (last_paired_of (map turn rest))) (last-alike (turn entry).cells entry.cells all.0)
    ∙ ap (max (last_paired entry.cells)) (played-alike turn rest all.1)

-- a player who is changed has the same games without a result
pub record OpenAlike (entry entry' : Entry) : Type 0 where
  pub start : entry'.start ≡ entry.start
  pub cells : LookAlike is_unfinished entry'.cells entry.cells

pub open-alike : (turn : Entry → Entry) (entries : List Entry) → AllByRecursion (λ (entry : Entry). OpenAlike entry (turn entry)) entries
    → unfinished_of (map turn entries) ≡ unfinished_of entries
open-alike turn [] all = refl
open-alike turn (entry ∷ rest) all =
    let here : OpenAlike entry (turn entry) = all.0 in
    ap (λ (o : Option ℕ). option_map_or (λ round. Some ((turn entry).start, round)) o (unfinished_of (map turn rest))) (first-alike 1 (turn entry).cells entry.cells here.cells)
    ∙ ap (λ start. option_map_or (λ round. Some (start, round)) (first_unfinished 1 entry.cells) (unfinished_of (map turn rest))) here.start
    ∙ ap (λ (o : Option (ℕ × ℕ)). option_map_or (λ round. Some (entry.start, round)) (first_unfinished 1 entry.cells) o) (open-alike turn rest all.1)

-- the cells of the player with a start rank
pub cells-alike : (rounds : ℕ) (turn : Entry → Entry) (entries : List Entry) (start : ℕ) → ((entry : Entry) → (turn entry).start ≡ entry.start)
    → AllByRecursion (λ (entry : Entry). StartAlike rounds (turn entry).cells entry.cells) entries
    → StartAlike rounds (cells_of (map turn entries) start) (cells_of entries start)
cells-alike rounds turn [] start keeps all = record { same = λ i lt. refl }
cells-alike rounds turn (entry ∷ rest) start keeps all =
    rw (keeps entry) (by (entry.start == start) (cells-alike rounds turn rest start keeps all.1))
  where
    by : (here : Bool) → StartAlike rounds (cells_of (map turn rest) start) (cells_of rest start)
        → StartAlike rounds (cond here (turn entry).cells (cells_of (map turn rest) start)) (cond here entry.cells (cells_of rest start))
    by true later = all.0
    by false later = later

pub points-alike : (bye rounds : ℕ) (xs ys : List Cell) (before : ℕ) → StartAlike rounds xs ys → before ≤ rounds → sum_by (half_points bye) (take before xs) ≡ sum_by (half_points bye) (take before ys)
points-alike bye rounds xs ys before start le = score-alike bye bye (take before xs) (take before ys) refl (taken-alike rounds before xs ys le start)

pub apart-alike : (old new : Sheet) → ((a b : ℕ) → apart new a b ≡ apart old a b) → starts_of new.players ≡ starts_of old.players → (start : ℕ) → apart_from new start ≡ apart_from old start
apart-alike old new same starts start =
    filter_agree (apart new start) (apart old start) (same start) (starts_of new.players) ∙ ap (filter (apart old start)) starts
