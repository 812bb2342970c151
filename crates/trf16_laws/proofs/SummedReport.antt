-- A report whose points fields are summed: its verdict is that of the report without the rule on points, and its canonical text is
-- accepted.
--
-- Summing is a change of players as the round trip allows it (`Turns`). Start ranks and cells stay, so the rules on two players hold
-- as before; each points field is the sum over the rounds that were paired, so the rule on points holds too.
use Rattle.std.proofs.Common.{◌≡◌, ◌⊎◌, inl, inr, ℕ, ◌+◌, ◌≤◌, Bool, true, false, ◌&&◌, ◌||◌, ◌==◌, nat_lt, max, cond, List, [], ◌∷◌, length, take, map, refl, ap, ◌∙◌, Option, Some, None, Result, Ok, Err}
use Rattle.std.specs.Prelude.{sum_by}
use Rattle.std.specs.List.{list_any}
use Rattle.std.specs.Option.{option_map_or}
use Rattle.trf16_report.specs.Prelude.{Entry, Sheet, known, cell_at, cell_in, cells_of, half_points, last_paired, last_paired_of, rounds_played, has_other_points, cells_fit, points_fit, player_fits, players_fit, IsButForPoints, all_cells_fit, entry_summed, summed, verdict_unsummed, laid_out, verdict, written}
use Rattle.trf16_report.specs.Outcomes.{◌>>=◌}
use Rattle.trf16_report.specs.declared.cell.Cell.{Cell}
use Rattle.trf16_report.specs.declared.fault.Fault.{Fault}
use Rattle.trf16_report.specs.declared.fault.Fault.TheVariants.{Points}
use Rattle.trf16_writer.proofs.BoardLemmas.{eq-self}
use Rattle.trf16_laws.proofs.PairedRound.{fits-same}
use Rattle.trf16_report.proofs.StepLemmas.{then_ok}
use Rattle.trf16_writer.proofs.AcceptedReport.{IsLaidOutOf, rule_met}
use Rattle.trf16_laws.proofs.WrittenReport.{Turns, laid_again}
use Rattle.trf16_report.specs.declared.limits.TheConstants.{MOST_BYTES}

abbrev fits : Result (Unit {0}) Fault
fits = Ok (tt {0})

-- the verdict, but for the rule on points

-- a rule is met, or it is one on points
abbrev IsPoints : Result (Unit {0}) Fault → Type 0
IsPoints rule = (rule ≡ fits) ⊎ ((start : ℕ) × (rule ≡ Err (Points start)))

points_alone : (sheet : Sheet) (entry : Entry) → IsPoints (points_fit sheet entry)
unfolding points_fit
points_alone sheet entry = by entry.points
  where
    decide : (b : Bool) → IsPoints (cond b (Ok tt) (Err (Points entry.start)))
    decide true = inl refl
    decide false = inr (entry.start, refl)

    by : (o : Option ℕ)
        → IsPoints (option_map_or (λ points.
        cond ((points == sum_by (half_points sheet.bye) (take (rounds_played sheet) entry.cells)) || (points == sum_by (half_points sheet.bye) entry.cells)
        || (has_other_points sheet && nat_lt points 200)) (Ok tt) (Err (Points entry.start))) o (Ok (tt {0})))
    by None = inl refl
    by (Some points) = decide ((points == sum_by (half_points sheet.bye) (take (rounds_played sheet) entry.cells)) || (points == sum_by (half_points sheet.bye) entry.cells) || (has_other_points sheet && nat_lt points 200))

-- all rules on players are those on their cells, or else one on points is broken
abbrev IsLike : Result (Unit {0}) Fault → Result (Unit {0}) Fault → Type 0
IsLike rules other = (rules ≡ other) ⊎ ((start : ℕ) × (rules ≡ Err (Points start)))

player_like : (sheet : Sheet) (entry : Entry) (rest : List Entry) → IsLike (players_fit sheet rest) (all_cells_fit sheet rest)
    → IsLike (players_fit sheet (entry ∷ rest)) (all_cells_fit sheet (entry ∷ rest))
unfolding players_fit player_fits all_cells_fit
player_like sheet entry rest later = by (cells_fit sheet entry.start 1 entry.cells) (points_fit sheet entry) (points_alone sheet entry)
  where
    by : (cells points : Result (Unit {0}) Fault) → IsPoints points
        → IsLike ((cells >>= λ _. points) >>= λ _. players_fit sheet rest) (cells >>= λ _. all_cells_fit sheet rest)
    by (Err fault) points alone = inl refl
    by (Ok y) points (inl e) = rw e later
    by (Ok y) points (inr p) = rw p.1 (inr (p.0, refl))

nobody_like : (sheet : Sheet) → IsLike (players_fit sheet []) (all_cells_fit sheet [])
unfolding players_fit all_cells_fit
nobody_like sheet = inl refl

players_like : (sheet : Sheet) (entries : List Entry) → IsLike (players_fit sheet entries) (all_cells_fit sheet entries)
players_like sheet [] = nobody_like sheet
players_like sheet (entry ∷ rest) = player_like sheet entry rest (players_like sheet rest)

pub verdict_like : (bytes : List ℕ) (bye : ℕ) → IsButForPoints (verdict bytes bye) (verdict_unsummed bytes bye)
unfolding verdict verdict_unsummed
verdict_like bytes bye = by (laid_out bytes bye)
  where
    rules : (sheet : Sheet) (given other : Result (Unit {0}) Fault) → IsLike given other → IsButForPoints (given >>= λ _. Ok sheet) (other >>= λ _. Ok sheet)
    rules sheet given other (inl e) = inl (ap (λ (r : Result (Unit {0}) Fault). r >>= λ _. Ok sheet) e)
    rules sheet given other (inr p) = rw p.1 (inr (p.0, refl))

    by : (laid : Result Sheet Fault)
        → IsButForPoints (laid >>= λ sheet. players_fit sheet sheet.players >>= λ _. Ok sheet) (laid >>= λ sheet. all_cells_fit sheet sheet.players >>= λ _. Ok sheet)
    by (Ok sheet) = rules sheet (players_fit sheet sheet.players) (all_cells_fit sheet sheet.players) (players_like sheet sheet.players)
    by (Err fault) = inl refl

-- what summing leaves

known_same : (bye rounds start : ℕ) (entries : List Entry)
    → list_any (λ (entry : Entry). entry.start == start) (map (entry_summed bye rounds) entries) ≡ list_any (λ (entry : Entry). entry.start == start) entries
known_same bye rounds start [] = refl
known_same bye rounds start (entry ∷ rest) = ap (λ b. (entry.start == start) || b) (known_same bye rounds start rest)

cells_same : (bye rounds start : ℕ) (entries : List Entry) → cells_of (map (entry_summed bye rounds) entries) start ≡ cells_of entries start
cells_same bye rounds start [] = refl
cells_same bye rounds start (entry ∷ rest) = ap (λ (cells : List Cell). cond (entry.start == start) entry.cells cells) (cells_same bye rounds start rest)

played_same : (bye rounds : ℕ) (entries : List Entry) → last_paired_of (map (entry_summed bye rounds) entries) ≡ last_paired_of entries
played_same bye rounds [] = refl
played_same bye rounds (entry ∷ rest) = ap (λ n. max (last_paired entry.cells) n) (played_same bye rounds rest)

-- the rules on two players see no points
record IsSame (old new : Sheet) : Type 0 where
  players : (start : ℕ) → known new start ≡ known old start
  cells : (start round : ℕ) → cell_in new start round ≡ cell_in old start round

cells_fit-same : (old new : Sheet) (start round : ℕ) (cells : List Cell) → IsSame old new → cells_fit new start round cells ≡ cells_fit old start round cells
unfolding cells_fit
cells_fit-same old new start round [] same = refl
cells_fit-same old new start round (cell ∷ rest) same =
    rw (fits-same old new start round cell same.players (λ o. same.cells o round), cells_fit-same old new start (round + 1) rest same) refl

points_summed : (new : Sheet) (rounds : ℕ) (entry : Entry) → rounds_played new ≡ rounds → points_fit new (entry_summed new.bye rounds entry) ≡ fits
unfolding points_fit
points_summed new rounds entry played = rw (played, eq-self (sum_by (half_points new.bye) (take rounds entry.cells))) refl

players_summed : (old new : Sheet) (rounds : ℕ) (entries : List Entry) → IsSame old new → rounds_played new ≡ rounds → all_cells_fit old entries ≡ fits
    → players_fit new (map (entry_summed new.bye rounds) entries) ≡ fits
unfolding players_fit player_fits all_cells_fit
players_summed old new rounds [] same played fit = refl
players_summed old new rounds (entry ∷ rest) same played fit =
    let step = then_ok (cells_fit old entry.start 1 entry.cells) (λ _. all_cells_fit old rest) (tt {0}) fit in
    let cells : cells_fit new entry.start 1 entry.cells ≡ fits = cells_fit-same old new entry.start 1 entry.cells same ∙ step.1 in
    rw (cells, points_summed new rounds entry played) (players_summed old new rounds rest same played step.2)

turns_summed : (utf8 : Bool) (bye rounds : ℕ) → Turns utf8 (entry_summed bye rounds)
turns_summed utf8 bye rounds = record {
  start = λ entry. refl;
  line = λ entry. refl;
  left = λ entry. refl;
  right = λ entry. refl;
  sound = λ entry s. record { start = s.start; some = s.some; left = s.left; right = s.right; sound = s.sound; few = s.few; cut = s.cut };
}

-- the whole

unsummed_is : (bytes : List ℕ) (bye : ℕ) (report : Sheet) → verdict_unsummed bytes bye ≡ Ok report
    → IsLaidOutOf bytes bye report × (all_cells_fit report report.players ≡ fits)
unfolding verdict_unsummed
unsummed_is bytes bye report e = rule_met bytes bye report (λ sheet. all_cells_fit sheet sheet.players) e

pub summed_again : (bytes : List ℕ) (bye : ℕ) (report : Sheet) → bye ≤ 2 → verdict_unsummed bytes bye ≡ Ok report → length (written (summed report)) ≤ MOST_BYTES
    → verdict (written (summed report)) report.bye ≡ Ok (summed report)
summed_again bytes bye report worth e few =
    let u = unsummed_is bytes bye report e in
    let rounds = rounds_played report in
    let turn = entry_summed report.bye rounds in
    let same : IsSame report (summed report) = record {
      players = λ start. known_same report.bye rounds start report.players;
      cells = λ start round. ap (λ (cells : List Cell). cell_at cells round) (cells_same report.bye rounds start report.players);
    } in
    laid_again bytes bye report turn worth u.0 (turns_summed report.utf8 report.bye rounds)
    (players_summed report (summed report) rounds report.players same (played_same report.bye rounds report.players) u.1) few
