-- What the rules on two players come to, where no fault was met.
use Rattle.std.proofs.Common.{◌≡◌, ◌⊎◌, inl, inr, ℕ, zero, suc, Bool, true, false, not, cond, ◌&&◌, ◌||◌, ◌+◌, ◌-◌, ◌≤◌, ◌<◌, nat_eq, nat_le, nat_lt, List, [], ◌∷◌, length, get_or, take, Option, Some, None, Result, Ok, Err, refl, ap, subst, arith}
use Rattle.std.specs.Prelude.{IfSome, ◌==◌, sum_by}
use Rattle.std.specs.Option.{option_map_or}
use Rattle.std.proofs.lemmas.Bool.{eqb-true, eqb-false, ltb-true, leb-true, cases_lt, and_parts, or_cases, not-false}
use Rattle.std.proofs.lemmas.List.{get_or_past}
use Rattle.trf16_report.specs.Prelude.{Entry, Sheet, known, cell_in, cells_of, game_points, half_points, opponent_in_cell, colour_in_cell, rounds_played, are_opposite, is_forfeit, are_of_one_class, has_other_points, pair_fits, cell_fits, cells_fit, points_fit, player_fits, players_fit, verdict, AnswerEachOther, AreSum, HavePoints}
use Rattle.trf16_report.proofs.StepLemmas.{then_ok}
use Rattle.trf16_writer.proofs.AcceptedReport.{accepted}
use Rattle.trf16_report.specs.declared.cell.Cell.{Cell}
use Rattle.trf16_report.specs.declared.cell.Cell.TheVariants.{Blank}
use Rattle.trf16_report.specs.declared.fault.Fault.{Fault}
use Rattle.trf16_report.specs.declared.fault.Fault.TheVariants.{NoSuchOpponent, SelfOpponent, NotMutual, Colours, Results, Points}

abbrev fits : Result (Unit {0}) Fault
fits = Ok (tt {0})

-- a test that met no fault
guard : {A : Type 0} (b : Bool) (fault : Fault) (r : Result A Fault) (y : A) → cond b (Err fault) r ≡ Ok y → (b ≡ false) × (r ≡ Ok y)
guard true fault r y e = absurd (cc)
guard false fault r y e = (refl, e)

kept : {A : Type 0} (b : Bool) (fault : Fault) (x y : A) → cond b (Ok x) (Err fault) ≡ Ok y → b ≡ true
kept true fault x y e = refl
kept false fault x y e = absurd (cc)

-- the cells of one player fit
pub cells_of-fit : (sheet : Sheet) (entries : List Entry) (start : ℕ) → players_fit sheet entries ≡ fits → cells_fit sheet start 1 (cells_of entries start) ≡ fits
unfolding players_fit player_fits cells_fit
cells_of-fit sheet [] start e = refl
cells_of-fit sheet (entry ∷ rest) start e =
    let first = then_ok (player_fits sheet entry) (λ _. players_fit sheet rest) (tt {0}) e in
    let cells = then_ok (cells_fit sheet entry.start 1 entry.cells) (λ _. points_fit sheet entry) (tt {0}) first.1 in
    by (nat_eq entry.start start) refl cells.1 (cells_of-fit sheet rest start first.2)
  where
    by : (here : Bool) → nat_eq entry.start start ≡ here → cells_fit sheet entry.start 1 entry.cells ≡ fits → cells_fit sheet start 1 (cells_of rest start) ≡ fits
        → cells_fit sheet start 1 (cond here entry.cells (cells_of rest start)) ≡ fits
    by true is mine others = subst (λ n. cells_fit sheet n 1 entry.cells ≡ fits) (eqb-true entry.start start is) mine
    by false is mine others = others

-- each cell of these fits
pub cell_of-fit : (sheet : Sheet) (start n : ℕ) (cells : List Cell) (i : ℕ) → i < length cells → cells_fit sheet start n cells ≡ fits
    → cell_fits sheet start (n + i) (get_or cells i Blank) ≡ fits
unfolding cells_fit
cell_of-fit sheet start n [] i lt e = absurd (omega arith)
cell_of-fit sheet start n (cell ∷ rest) zero lt e =
    let here = then_ok (cell_fits sheet start n cell) (λ _. cells_fit sheet start (n + 1) rest) (tt {0}) e in
    let place : n ≡ n + 0 = omega arith in
    subst (λ r. cell_fits sheet start r cell ≡ fits) place here.1
cell_of-fit sheet start n (cell ∷ rest) (suc i) lt e =
    let here = then_ok (cell_fits sheet start n cell) (λ _. cells_fit sheet start (n + 1) rest) (tt {0}) e in
    let place : n + 1 + i ≡ n + suc i = omega arith in
    subst (λ r. cell_fits sheet start r (get_or rest i Blank) ≡ fits) place (cell_of-fit sheet start (n + 1) rest i (omega arith) here.2)

names_him : (o : Option ℕ) (start : ℕ) → option_map_or (λ n. n == start) o false ≡ true → o ≡ Some start
names_him None start e = absurd (cc)
names_him (Some n) start e = ap (λ k. Some k) (eqb-true n start e)

-- the two cells of a pair
pub record PairFits (mine theirs : Cell) : Type 0 where
  pub colours : (are_opposite (colour_in_cell mine) (colour_in_cell theirs) || (is_forfeit mine && is_forfeit theirs)) ≡ true
  pub class : are_of_one_class mine theirs ≡ true
  pub points : game_points mine + game_points theirs ≤ 2

pub pair_is : (start round : ℕ) (mine theirs : Cell) → pair_fits start round mine theirs ≡ fits → PairFits mine theirs
unfolding pair_fits
pair_is start round mine theirs e =
    let colours = guard (not (are_opposite (colour_in_cell mine) (colour_in_cell theirs) || (is_forfeit mine && is_forfeit theirs))) (Colours start round) _ (tt {0}) e in
    let results = guard (not (are_of_one_class mine theirs && nat_le (game_points mine + game_points theirs) 2)) (Results start round) _ (tt {0}) colours.1 in
    let both = and_parts (are_of_one_class mine theirs) _ (not-false _ results.0) in
    record { colours = not-false _ colours.0; class = both.0; points = leb-true _ _ both.1 }

-- a cell that names an opponent and fits
pub record CellFits (sheet : Sheet) (start round opponent : ℕ) (mine : Cell) : Type 0 where
  pub player : known sheet opponent ≡ true
  pub another : opponent ≡ start → ⊥
  pub both_ways : opponent_in_cell (cell_in sheet opponent round) ≡ Some start
  pub pair : PairFits mine (cell_in sheet opponent round)

pub cell_is : (sheet : Sheet) (start round opponent : ℕ) (mine : Cell) → opponent_in_cell mine ≡ Some opponent → cell_fits sheet start round mine ≡ fits
    → CellFits sheet start round opponent mine
unfolding cell_fits
cell_is sheet start round opponent mine names e =
    let theirs = cell_in sheet opponent round in
    let here = rw names at e in
    let found = guard (not (known sheet opponent)) (NoSuchOpponent start round) _ (tt {0}) here in
    let other = guard (opponent == start) (SelfOpponent start round) _ (tt {0}) found.1 in
    let back = guard (not (option_map_or (λ o. o == start) (opponent_in_cell theirs) false)) (NotMutual start round) _ (tt {0}) other.1 in
    record {
      player = not-false _ found.0;
      another = eqb-false opponent start other.0;
      both_ways = names_him (opponent_in_cell theirs) start (not-false _ back.0);
      pair = pair_is start round mine theirs back.1;
    }

-- whoever names an opponent is answered
pub answered : (bytes : List ℕ) (bye : ℕ) (sheet : Sheet) → verdict bytes bye ≡ Ok sheet → AnswerEachOther sheet
answered bytes bye sheet e start round opponent from_one names =
    let cells = cells_of sheet.players start in
    let all : cells_fit sheet start 1 cells ≡ fits = cells_of-fit sheet sheet.players start (accepted bytes bye sheet e).1 in
    let within : round - 1 < length cells = inside (cases_lt (round - 1) (length cells)) in
    let place : 1 + (round - 1) ≡ round = omega arith in
    let here : cell_fits sheet start round (cell_in sheet start round) ≡ fits =
    subst (λ r. cell_fits sheet start r (cell_in sheet start round) ≡ fits) place (cell_of-fit sheet start 1 cells (round - 1) within all) in
    let fit = cell_is sheet start round opponent (cell_in sheet start round) names here in
    record {
      player = fit.player;
      another = fit.another;
      both_ways = fit.both_ways;
      colours = fit.pair.colours;
      class = fit.pair.class;
      points = fit.pair.points;
    }
  where
    blank : {X : Type 0} (o : Option X) (x : X) → o ≡ None → o ≡ Some x → ⊥
    blank o x none some = cc

    inside : (round - 1 < length (cells_of sheet.players start)) ⊎ (length (cells_of sheet.players start) ≤ round - 1) → round - 1 < length (cells_of sheet.players start)
    inside (inl lt) = lt
    inside (inr le) =
        absurd (blank (opponent_in_cell (cell_in sheet start round)) opponent (ap opponent_in_cell (get_or_past (cells_of sheet.players start) (round - 1) Blank le)) names)

points_of-fit : (sheet : Sheet) (entries : List Entry) (k : ℕ) (d : Entry) → k < length entries → players_fit sheet entries ≡ fits → points_fit sheet (get_or entries k d) ≡ fits
unfolding players_fit player_fits
points_of-fit sheet [] k d lt e = absurd (omega arith)
points_of-fit sheet (entry ∷ rest) zero d lt e =
    let first = then_ok (player_fits sheet entry) (λ _. players_fit sheet rest) (tt {0}) e in
    let cells = then_ok (cells_fit sheet entry.start 1 entry.cells) (λ _. points_fit sheet entry) (tt {0}) first.1 in
    cells.2
points_of-fit sheet (entry ∷ rest) (suc k) d lt e =
    let first = then_ok (player_fits sheet entry) (λ _. players_fit sheet rest) (tt {0}) e in
    points_of-fit sheet rest k d (omega arith) first.2

sums : (sheet : Sheet) (entry : Entry) (points : ℕ)
    → (((points == sum_by (half_points sheet.bye) (take (rounds_played sheet) entry.cells)) || (points == sum_by (half_points sheet.bye) entry.cells)) || (has_other_points sheet && nat_lt points 200)) ≡ true
    → AreSum sheet entry points
sums sheet entry points e = by (or_cases _ _ e)
  where
    one : ((points == sum_by (half_points sheet.bye) (take (rounds_played sheet) entry.cells)) ≡ true) ⊎ ((points == sum_by (half_points sheet.bye) entry.cells) ≡ true) → AreSum sheet entry points
    one (inl f) = inl (eqb-true _ _ f)
    one (inr f) = inr (inl (eqb-true _ _ f))

    by : (((points == sum_by (half_points sheet.bye) (take (rounds_played sheet) entry.cells)) || (points == sum_by (half_points sheet.bye) entry.cells)) ≡ true) ⊎ ((has_other_points sheet && nat_lt points 200) ≡ true)
        → AreSum sheet entry points
    by (inl f) = one (or_cases _ _ f)
    by (inr f) = let both = and_parts (has_other_points sheet) (nat_lt points 200) f in inr (inr (both.0, ltb-true points 200 both.1))

points_is : (sheet : Sheet) (entry : Entry) (o : Option ℕ)
    → option_map_or (λ points. cond (((points == sum_by (half_points sheet.bye) (take (rounds_played sheet) entry.cells)) || (points == sum_by (half_points sheet.bye) entry.cells))
    || (has_other_points sheet && nat_lt points 200)) (Ok (tt {0})) (Err (Points entry.start))) o (Ok (tt {0})) ≡ fits
    → IfSome o (AreSum sheet entry)
points_is sheet entry None e = tt
points_is sheet entry (Some points) e = sums sheet entry points (kept _ (Points entry.start) (tt {0}) (tt {0}) e)

pub have_points : (bytes : List ℕ) (bye : ℕ) (sheet : Sheet) → verdict bytes bye ≡ Ok sheet → HavePoints sheet
unfolding points_fit
have_points bytes bye sheet e entry has =
    let fit = points_of-fit sheet sheet.players has.0 entry has.1 (accepted bytes bye sheet e).1 in
    subst (λ (one : Entry). IfSome one.points (AreSum sheet one)) has.2 (points_is sheet (get_or sheet.players has.0 entry) (get_or sheet.players has.0 entry).points fit)
