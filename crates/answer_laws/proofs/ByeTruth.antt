-- Each obstacle that is told against the bye is there (C.04.3 C.2): the round in which a player had it, or a point without a game.
use Rattle.std.proofs.Common.{◌≡◌, ℕ, zero, suc, Bool, true, false, cond, nat_eq, ◌+◌, ◌-◌, ◌≤◌, ◌<◌, not, List, [], ◌∷◌, Option, Some, None, Result, Ok, Err, refl, sym, ap, ◌∙◌, subst, inl, inr, arith, find, take, length, get_or}
use Rattle.std.specs.Prelude.{All}
use Rattle.std.specs.Option.{unwrap_or}
use Rattle.std.specs.List.{AllByRecursion, IsDistinct, list_any, range_with_len}
use Rattle.std.proofs.lemmas.Bool.{cases_eq, eq-eqb, or_cases, true≢false}
use Rattle.std.proofs.lemmas.List.Elements.{All-from_recursion, All-get_or}
use Rattle.std.proofs.lemmas.List.Sorted.{All-permutation}
use Rattle.trf16_report.specs.declared.cell.Cell.{Cell}
use Rattle.trf16_report.specs.declared.cell.Cell.TheVariants.{Blank}
use Rattle.trf16_report.specs.declared.cell.Colour.{Colour}
use Rattle.trf16_report.specs.Prelude.{Entry, HasOwnStarts, Sheet, absent, cell_in, cells_of, rounds_played, starts_of}
use Rattle.trf16_report.specs.Outcomes.{◌>>=◌}
use Rattle.trf16_report.proofs.RankLemmas.{ranked_moves}
use Rattle.dutch_player.specs.declared.fault.FieldFault.{FieldFault}
use Rattle.dutch_player.specs.Prelude.{Facts, SeatFacts, bars_bye, facts_of, goes_before, initial_of, may_bye, no_seat, seats_by_rank, seat_at, seat_of, seats_of, total_for}
use Rattle.answer_laws.specs.InsteadLaws.{StandsAgainstBye}
use Rattle.answer_laws.proofs.ObstacleTruth.{first_is}
use Rattle.player_lines.specs.Obstacles.{against_bye, first_bye, has_had_bye, even_without_bye}
use Rattle.player_lines.specs.declared.obstacle.Obstacle.{Obstacle}
use Rattle.player_lines.specs.declared.obstacle.Obstacle.TheVariants.{Even, HadBye}

-- ---- the cells of a seat

-- a player's cells are found by the start rank, which is the player's own
others_cells : (first : Entry) (entries some : List Entry) → AllByRecursion (λ start. nat_eq first.start start ≡ false) (starts_of some)
    → AllByRecursion (λ (entry : Entry). cells_of entries entry.start ≡ entry.cells) some
    → AllByRecursion (λ (entry : Entry). cells_of (first ∷ entries) entry.start ≡ entry.cells) some
others_cells first entries [] others all = tt
others_cells first entries (entry ∷ some) others all =
    (ap (λ t. cond t first.cells (cells_of entries entry.start)) others.0 ∙ all.0, others_cells first entries some others.1 all.1)

own_cells : (entries : List Entry) → IsDistinct nat_eq (starts_of entries) → AllByRecursion (λ (entry : Entry). cells_of entries entry.start ≡ entry.cells) entries
unfolding IsDistinct
own_cells [] distinct = tt
own_cells (entry ∷ rest) distinct = (
  ap (λ t. cond t entry.cells (cells_of rest entry.start)) (eq-eqb entry.start entry.start refl),
  others_cells entry rest rest distinct.0 (own_cells rest distinct.1),
)

-- a seat may have the bye by the player's cells of the rounds that were paired
abbrev IsByCells : Sheet → SeatFacts → Type 0
IsByCells sheet seat = seat.may_bye ≡ may_bye (take (rounds_played sheet) (cells_of sheet.players seat.start))

by_cells_at : (sheet : Sheet) (entry : Entry) (rest : List SeatFacts) (t : Bool) → cells_of sheet.players entry.start ≡ entry.cells
    → AllByRecursion (IsByCells sheet) rest → AllByRecursion (IsByCells sheet) (cond t rest (seat_of sheet entry ∷ rest))
unfolding seat_of
by_cells_at sheet entry rest true own all = all
by_cells_at sheet entry rest false own all = (ap (λ cells. may_bye (take (rounds_played sheet) cells)) (sym own), all)

by_cells : (sheet : Sheet) (entries : List Entry) → AllByRecursion (λ (entry : Entry). cells_of sheet.players entry.start ≡ entry.cells) entries
    → AllByRecursion (IsByCells sheet) (seats_of sheet entries)
by_cells sheet [] own = tt
by_cells sheet (entry ∷ rest) own = by_cells_at sheet entry (seats_of sheet rest) (absent sheet entry.start) own.0 (by_cells sheet rest own.1)

abbrev made : Sheet → Option Colour → ℕ → Facts
made sheet initial total =
    record { seats = seats_by_rank (seats_of sheet sheet.players); round = rounds_played sheet + 1; total = total; initial = initial_of sheet initial }

made_at : (sheet : Sheet) (initial : Option Colour) (facts : Facts) (total : Result ℕ FieldFault) → (total >>= λ total. Ok (made sheet initial total)) ≡ Ok facts
    → seats_by_rank (seats_of sheet sheet.players) ≡ facts.seats
made_at sheet initial facts (Ok total) e = let same : made sheet initial total ≡ facts = cc in ap (λ (f : Facts). f.seats) same
made_at sheet initial facts (Err fault) e = absurd (let bad : ◌≡◌ {A = Result Facts FieldFault} (Err fault) (Ok facts) = e in cc)

seats_are : (sheet : Sheet) (asked : Option ℕ) (initial : Option Colour) (facts : Facts) → facts_of sheet asked initial ≡ Ok facts
    → seats_by_rank (seats_of sheet sheet.players) ≡ facts.seats
unfolding facts_of
seats_are sheet asked initial facts e = made_at sheet initial facts (total_for sheet asked) e

all_by_cells : (sheet : Sheet) (asked : Option ℕ) (initial : Option Colour) (facts : Facts) → HasOwnStarts sheet → facts_of sheet asked initial ≡ Ok facts
    → All (IsByCells sheet) facts.seats
all_by_cells sheet asked initial facts own e =
    let seats : List SeatFacts = seats_of sheet sheet.players in
    subst (λ (all : List SeatFacts). All (IsByCells sheet) all) (seats_are sheet asked initial facts e)
    (All-permutation (IsByCells sheet) seats (seats_by_rank seats) (ranked_moves goes_before seats)
    (All-from_recursion (IsByCells sheet) seats (by_cells sheet sheet.players (own_cells sheet.players own.different))))

-- ---- the round in which it was barred

-- a cell that bars the bye is that of a round
barred_at : (cells : List Cell) (count : ℕ) → list_any bars_bye (take count cells) ≡ true → (i : ℕ) × (i < count) × (bars_bye (get_or cells i Blank) ≡ true)
barred_at cells zero barred = absurd (true≢false (sym barred))
barred_at [] (suc count) barred = absurd (true≢false (sym barred))
barred_at (cell ∷ cells) (suc count) barred = elim (or_cases (bars_bye cell) (list_any bars_bye (take count cells)) barred) [
  | inl here ↦ (0, omega arith, here)
  | inr later ↦ (let place = barred_at cells count later in (suc place.0, omega (arith, place.1), place.2))
]

none_at : (test : ℕ → Bool) (first count : ℕ) (t : Bool) → test first ≡ t
    → (find test (range_with_len (first + 1) count) ≡ None → (number : ℕ) → first + 1 ≤ number → number < first + 1 + count → test number ≡ false)
    → cond t (Some first) (find test (range_with_len (first + 1) count)) ≡ None → (number : ℕ) → first ≤ number → number < first + suc count → test number ≡ false
none_at test first count true is later e number low high = absurd (let bad : Some first ≡ None = e in cc)
none_at test first count false is later e number low high = elim (cases_eq number first) [
  | inl same ↦ ap test same ∙ is
  | inr other ↦ later e number (omega (arith, low, other)) (omega (arith, high))
]

-- where no number is found, none passes
none_passes : (test : ℕ → Bool) (first count : ℕ) → find test (range_with_len first count) ≡ None → (number : ℕ) → first ≤ number → number < first + count → test number ≡ false
none_passes test first zero e = λ number low high. absurd (omega (arith, low, high))
none_passes test first (suc count) e = none_at test first count (test first) refl (none_passes test (first + 1) count) e

not_barred : (may barred : Bool) → may ≡ false → may ≡ not barred → barred ≡ true
not_barred may true off is = refl
not_barred may false off is = absurd (true≢false (sym is ∙ off))

module _ (sheet : Sheet) (facts : Facts) (bye : List ℕ) (seat : ℕ) (by : IsByCells sheet (seat_at facts seat)) where
  abbrev start : ℕ
  start = (seat_at facts seat).start

  abbrev cells : List Cell
  cells = cells_of sheet.players start

  -- whoever may not have the bye has such a round
  some_round : (seat_at facts seat).may_bye ≡ false → first_bye sheet start ≡ None → ⊥
  some_round off none =
      let rounds = rounds_played sheet in
      let place = barred_at cells rounds (not_barred (seat_at facts seat).may_bye (list_any bars_bye (take rounds cells)) off by) in
      let passed : bars_bye (cell_in sheet start (suc place.0)) ≡ false =
      none_passes (has_had_bye sheet start) 1 rounds none (suc place.0) (omega arith) (omega (arith, place.1)) in
      let same : suc place.0 - 1 ≡ place.0 = omega arith in
      true≢false (sym place.2 ∙ ap (λ k. bars_bye (get_or cells k Blank)) (sym same) ∙ passed)

  barred_since : (found : Option ℕ) → first_bye sheet start ≡ found → (seat_at facts seat).may_bye ≡ false → StandsAgainstBye sheet facts bye seat (HadBye (unwrap_or found 0))
  barred_since (Some round) e off =
      let there = first_is (has_had_bye sheet start) 1 (rounds_played sheet) round e in
      (off, record { from_one = there.from; within = omega (arith, there.within); barred = there.passes; none_before = there.before })
  barred_since None e off = absurd (some_round off e)

  bye_at : (may : Bool) (obstacle : Obstacle) → (seat_at facts seat).may_bye ≡ may → cond may (even_without_bye bye) (Some (HadBye (unwrap_or (first_bye sheet start) 0))) ≡ Some obstacle
      → StandsAgainstBye sheet facts bye seat obstacle
  bye_at false obstacle off e =
      let is : HadBye (unwrap_or (first_bye sheet start) 0) ≡ obstacle = cc in subst (StandsAgainstBye sheet facts bye seat) is (barred_since (first_bye sheet start) refl off)
  bye_at true obstacle may e = nobody bye obstacle may e where
    nobody : (all : List ℕ) (obstacle : Obstacle) → (seat_at facts seat).may_bye ≡ true → even_without_bye all ≡ Some obstacle → StandsAgainstBye sheet facts all seat obstacle
    nobody [] obstacle may e = let is : Even ≡ obstacle = cc in subst (StandsAgainstBye sheet facts [] seat) is (may, refl)
    nobody (first ∷ rest) obstacle may e = cc

pub stands_against_bye : (sheet : Sheet) (asked : Option ℕ) (initial : Option Colour) (facts : Facts) (bye : List ℕ) (seat : ℕ) (obstacle : Obstacle) → HasOwnStarts sheet
    → facts_of sheet asked initial ≡ Ok facts → seat < length facts.seats → against_bye sheet facts bye seat ≡ Some obstacle → StandsAgainstBye sheet facts bye seat obstacle
stands_against_bye sheet asked initial facts bye seat obstacle own made' within e =
    let by = All-get_or (IsByCells sheet) facts.seats seat no_seat within (all_by_cells sheet asked initial facts own made') in
    bye_at sheet facts bye seat by (seat_at facts seat).may_bye obstacle refl e
