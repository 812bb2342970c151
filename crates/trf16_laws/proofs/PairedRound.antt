-- A report that was read and whose next round is then paired reads back from its canonical text.
--
-- Pairing a round is a change of players as the round trip allows it (`Turns`), so what is left is that the new report meets the
-- rules on two players and on points. In the new round whoever is named by a board is answered by the board's other player, since
-- nobody is named twice (`Answered`), and nobody else is paired there, since no round behind the last one was. In the other rounds
-- the cells are those of before. The points are the sum up to the round that is now the last.
use Rattle.std.proofs.Common.{◌≡◌, ◌⊎◌, inl, inr, ℕ, zero, suc, ◌+◌, ◌-◌, ◌<◌, ◌≤◌, Bool, true, false, not, ◌&&◌, ◌||◌, ◌==◌, nat_eq, nat_lt, max, cond, List, [], ◌∷◌, length, get_or, take, map, refl, sym, ap, ◌∙◌, arith, subst, Option, Some, None, is_some, Result, Ok, Err}
use Rattle.std.specs.Prelude.{sum_by, option_map}
use Rattle.std.specs.List.{IsDistinct, AllByRecursion, list_all, list_any}
use Rattle.std.specs.Option.{option_map_or}
use Rattle.std.proofs.lemmas.Bool.{and_parts, and_from, eqb-true, eqb-false, ne_eqb, ltb-true, lt-ltb, le-ltb, cases_lt, true≢false}
use Rattle.std.proofs.lemmas.List.{get_or_past}
use Rattle.std.proofs.lemmas.List.Elements.{recursion_from_All}
use Rattle.std.proofs.lemmas.Map.Keys.{IsDistinct-head, IsDistinct-tail}
use Rattle.trf16_report.specs.Prelude.{without_last, Entry, Sheet, known, cell_in, cells_of, is_paired, last_paired, last_paired_of, rounds_played, half_points, opponent_in_cell, has_other_points, pair_fits, cell_fits, cells_fit, points_fit, player_fits, players_fit, is_blank_cell, verdict, written, CanBePaired, named_by, cell_by, with_cell, cells_with, entry_with, with_round}
use Rattle.trf16_report.specs.declared.cell.Colour.TheVariants.{White, Black}
use Rattle.trf16_report.specs.declared.cell.Bye.TheVariants.{Allocated}
use Rattle.trf16_report.specs.declared.cell.Cell.{Cell}
use Rattle.trf16_report.specs.declared.cell.Cell.TheVariants.{Blank, Bye, Game, Forfeit, Unfinished}
use Rattle.trf16_report.specs.declared.fault.Fault.{Fault}
use Rattle.trf16_report.specs.declared.fault.Fault.TheVariants.{NoSuchOpponent, SelfOpponent, NotMutual, Points}
use Rattle.trf16_writer.proofs.BoardLemmas.{eq-self, eq-sym, all_in}
use Rattle.trf16_report.proofs.StepLemmas.{then_ok}
use Rattle.trf16_laws.proofs.MeetingLemmas.{cell_of-fit}
use Rattle.trf16_laws.proofs.WrittenCells.{is_sound}
use Rattle.trf16_laws.proofs.WrittenPlayers.{IsSoundEntry}
use Rattle.trf16_writer.proofs.AcceptedReport.{accepted}
use Rattle.trf16_laws.proofs.WrittenReport.{Turns, known-turned, are_all_sound, were_sound, written_again}
use Rattle.trf16_report.specs.declared.limits.TheConstants.{MOST_ROUNDS, MOST_BYTES}

abbrev fits : Result (Unit {0}) Fault
fits = Ok (tt {0})

one_is : {X : Type 0} (x y : X) → ◌≡◌ {A = Option X} (Some x) (Some y) → x ≡ y
one_is x y e = cc

-- what a board gives

-- a cell that a board gives: it is paired, so it is not blank, and it names a player of the boards or none
pub record IsGiven (boards : List (ℕ × ℕ)) (cell : Cell) : Type 0 where
  pub paired : is_paired cell ≡ true
  said : is_blank_cell cell ≡ false
  names : (o : ℕ) → opponent_in_cell cell ≡ Some o → list_any (nat_eq o) (named_by boards) ≡ true

pub named_head : (board : ℕ × ℕ) (rest : List (ℕ × ℕ)) → list_any (nat_eq board.0) (named_by (board ∷ rest)) ≡ true
named_head board rest = by (board.1 == 0)
  where
    by : (bye : Bool) → list_any (nat_eq board.0) (cond bye (board.0 ∷ named_by rest) (board.0 ∷ board.1 ∷ named_by rest)) ≡ true
    by true = rw (eq-self board.0) refl
    by false = rw (eq-self board.0) refl

pub named_black : (board : ℕ × ℕ) (rest : List (ℕ × ℕ)) → (board.1 == 0) ≡ false → list_any (nat_eq board.1) (named_by (board ∷ rest)) ≡ true
named_black board rest some = rw some (by (nat_eq board.1 board.0))
  where
    by : (b : Bool) → (b || (nat_eq board.1 board.1 || list_any (nat_eq board.1) (named_by rest))) ≡ true
    by true = refl
    by false = rw (eq-self board.1) refl

pub named_tail : (board : ℕ × ℕ) (rest : List (ℕ × ℕ)) (n : ℕ) → list_any (nat_eq n) (named_by rest) ≡ true → list_any (nat_eq n) (named_by (board ∷ rest)) ≡ true
named_tail board rest n is = by (board.1 == 0)
  where
    or_true : (b : Bool) → (b || true) ≡ true
    or_true true = refl
    or_true false = refl

    by : (bye : Bool) → list_any (nat_eq n) (cond bye (board.0 ∷ named_by rest) (board.0 ∷ board.1 ∷ named_by rest)) ≡ true
    by true = rw is (or_true (nat_eq n board.0))
    by false = rw (is, or_true (nat_eq n board.1)) (or_true (nat_eq n board.0))

bye_given : (boards : List (ℕ × ℕ)) → IsGiven boards (Bye Allocated)
bye_given boards = record { paired = refl; said = refl; names = λ o e. absurd (cc) }

given_later : (board : ℕ × ℕ) (rest : List (ℕ × ℕ)) (cell : Cell) → IsGiven rest cell → IsGiven (board ∷ rest) cell
given_later board rest cell g = record { paired = g.paired; said = g.said; names = λ o names. named_tail board rest o (g.names o names) }

pub given : (boards : List (ℕ × ℕ)) (start : ℕ) (cell : Cell) → cell_by boards start ≡ Some cell → IsGiven boards cell
given [] start cell e = absurd (cc)
given (board ∷ rest) start cell e = by (board.0 == start) (board.1 == 0) refl (board.1 == start) e (λ e'. given_later board rest cell (given rest start cell e'))
  where
    by : (white bye : Bool) → (board.1 == 0) ≡ bye → (black : Bool)
        → option_map_or (λ c. Some c) (cond white (Some (cond bye (Bye Allocated) (Unfinished board.1 White))) (cond black (Some (Unfinished board.0 Black)) None)) (cell_by rest start) ≡ Some cell
        → (cell_by rest start ≡ Some cell → IsGiven (board ∷ rest) cell) → IsGiven (board ∷ rest) cell
    by true true is black e later = subst (IsGiven (board ∷ rest)) (one_is (Bye Allocated) cell e) (bye_given (board ∷ rest))
    by true false is black e later = subst (IsGiven (board ∷ rest)) (one_is (Unfinished board.1 White) cell e)
        (record { paired = refl; said = refl; names = λ o names. subst (λ n. list_any (nat_eq n) (named_by (board ∷ rest)) ≡ true) (one_is board.1 o names) (named_black board rest is) })
    by false bye is true e later = subst (IsGiven (board ∷ rest)) (one_is (Unfinished board.0 Black) cell e)
        (record { paired = refl; said = refl; names = λ o names. subst (λ n. list_any (nat_eq n) (named_by (board ∷ rest)) ≡ true) (one_is board.0 o names) (named_head board rest) })
    by false bye is false e later = later e

-- whoever meets somebody on a board is answered by them
record IsMet (boards : List (ℕ × ℕ)) (start : ℕ) (cell : Cell) (opponent : ℕ) : Type 0 where
  theirs : Cell
  names : opponent_in_cell cell ≡ Some opponent
  named : list_any (nat_eq opponent) (named_by boards) ≡ true
  another : (opponent == start) ≡ false
  given : cell_by boards opponent ≡ Some theirs
  back : opponent_in_cell theirs ≡ Some start
  pair : (round : ℕ) → pair_fits start round cell theirs ≡ fits

abbrev Answered : List (ℕ × ℕ) → ℕ → Cell → Type 0
Answered boards start cell = (opponent_in_cell cell ≡ None) ⊎ ((opponent : ℕ) × IsMet boards start cell opponent)

-- what a board's two numbers are to those of the boards behind it
record IsApart (board : ℕ × ℕ) (rest : List (ℕ × ℕ)) : Type 0 where
  both : (board.1 == 0) ≡ false → nat_eq board.0 board.1 ≡ false
  white : AllByRecursion (λ n. nat_eq board.0 n ≡ false) (named_by rest)
  black : (n : ℕ) → list_any (nat_eq n) (named_by rest) ≡ true → nat_eq board.1 n ≡ false
  some : AllByRecursion (λ n. (n == 0) ≡ false) (named_by rest)
  distinct : IsDistinct nat_eq (named_by rest)

apart : (board : ℕ × ℕ) (rest : List (ℕ × ℕ)) → AllByRecursion (λ n. (n == 0) ≡ false) (named_by (board ∷ rest)) → IsDistinct nat_eq (named_by (board ∷ rest)) → IsApart board rest
apart board rest some distinct = by (board.1 == 0) refl some distinct
  where
    by : (bye : Bool) → (board.1 == 0) ≡ bye → AllByRecursion (λ n. (n == 0) ≡ false) (cond bye (board.0 ∷ named_by rest) (board.0 ∷ board.1 ∷ named_by rest))
        → IsDistinct nat_eq (cond bye (board.0 ∷ named_by rest) (board.0 ∷ board.1 ∷ named_by rest)) → IsApart board rest
    by true is some distinct =
        let zero_is : board.1 ≡ 0 = eqb-true board.1 0 is in
        record {
          both = λ e. absurd (true≢false (sym is ∙ e));
          white = IsDistinct-head nat_eq board.0 (named_by rest) distinct;
          black = λ n named. ap (λ k. nat_eq k n) zero_is ∙ eq-sym 0 n ∙ all_in (λ k. (k == 0) ≡ false) (named_by rest) n some.1 named;
          some = some.1;
          distinct = IsDistinct-tail nat_eq board.0 (named_by rest) distinct;
        }
    by false is some distinct =
        let first = IsDistinct-head nat_eq board.0 (board.1 ∷ named_by rest) distinct in
        let later = IsDistinct-tail nat_eq board.0 (board.1 ∷ named_by rest) distinct in
        record {
          both = λ e. first.0;
          white = first.1;
          black = λ n named. all_in (λ k. nat_eq board.1 k ≡ false) (named_by rest) n (IsDistinct-head nat_eq board.1 (named_by rest) later) named;
          some = some.1.1;
          distinct = IsDistinct-tail nat_eq board.1 (named_by rest) later;
        }

white_meets : (board : ℕ × ℕ) (rest : List (ℕ × ℕ)) → (board.1 == 0) ≡ false → nat_eq board.0 board.1 ≡ false → IsMet (board ∷ rest) board.0 (Unfinished board.1 White) board.1
unfolding pair_fits
white_meets board rest some differ = record {
  theirs = Unfinished board.0 Black;
  names = refl;
  named = named_black board rest some;
  another = eq-sym board.1 board.0 ∙ differ;
  given = rw (differ, eq-self board.1) refl;
  back = refl;
  pair = λ round. refl;
}

black_meets : (board : ℕ × ℕ) (rest : List (ℕ × ℕ)) → (board.1 == 0) ≡ false → nat_eq board.0 board.1 ≡ false → IsMet (board ∷ rest) board.1 (Unfinished board.0 Black) board.0
unfolding pair_fits
black_meets board rest some differ = record {
  theirs = Unfinished board.1 White;
  names = refl;
  named = named_head board rest;
  another = differ;
  given = rw (eq-self board.0, some) refl;
  back = refl;
  pair = λ round. refl;
}

met_later : (board : ℕ × ℕ) (rest : List (ℕ × ℕ)) (start : ℕ) (cell : Cell) (opponent : ℕ) → IsApart board rest → IsMet rest start cell opponent → IsMet (board ∷ rest) start cell opponent
met_later board rest start cell opponent a m =
    let white : nat_eq board.0 opponent ≡ false = all_in (λ n. nat_eq board.0 n ≡ false) (named_by rest) opponent a.white m.named in
    record {
      theirs = m.theirs;
      names = m.names;
      named = named_tail board rest opponent m.named;
      another = m.another;
      given = rw (white, a.black opponent m.named) m.given;
      back = m.back;
      pair = m.pair;
    }

answered_later : (board : ℕ × ℕ) (rest : List (ℕ × ℕ)) (start : ℕ) (cell : Cell) → IsApart board rest → Answered rest start cell → Answered (board ∷ rest) start cell
answered_later board rest start cell a (inl none) = inl none
answered_later board rest start cell a (inr m) = inr (m.0, met_later board rest start cell m.0 a m.1)

answered : (boards : List (ℕ × ℕ)) (start : ℕ) (cell : Cell) → (start == 0) ≡ false → AllByRecursion (λ n. (n == 0) ≡ false) (named_by boards)
    → IsDistinct nat_eq (named_by boards) → cell_by boards start ≡ Some cell → Answered boards start cell
answered [] start cell player some distinct e = absurd (cc)
answered (board ∷ rest) start cell player some distinct e =
    let a = apart board rest some distinct in
    by a (board.0 == start) refl (board.1 == 0) refl (board.1 == start) refl e (λ e'. answered_later board rest start cell a (answered rest start cell player a.some a.distinct e'))
  where
    by : IsApart board rest → (white : Bool) → (board.0 == start) ≡ white → (bye : Bool) → (board.1 == 0) ≡ bye → (black : Bool) → (board.1 == start) ≡ black
        → option_map_or (λ c. Some c) (cond white (Some (cond bye (Bye Allocated) (Unfinished board.1 White))) (cond black (Some (Unfinished board.0 Black)) None)) (cell_by rest start) ≡ Some cell
        → (cell_by rest start ≡ Some cell → Answered (board ∷ rest) start cell) → Answered (board ∷ rest) start cell
    by a true w true b black s e later = inl (ap opponent_in_cell (sym (one_is (Bye Allocated) cell e)))
    by a true w false b black s e later =
        let is : board.0 ≡ start = eqb-true board.0 start w in
        inr (
          board.1,
          subst (λ n. IsMet (board ∷ rest) n cell board.1) is
              (subst (λ c. IsMet (board ∷ rest) board.0 c board.1) (one_is (Unfinished board.1 White) cell e) (white_meets board rest b (a.both b))),
        )
    by a false w bye b true s e later =
        let is : board.1 ≡ start = eqb-true board.1 start s in
        let some_black : (board.1 == 0) ≡ false = ap (λ n. n == 0) is ∙ player in
        inr (
          board.0,
          subst (λ n. IsMet (board ∷ rest) n cell board.0) is
              (subst (λ c. IsMet (board ∷ rest) board.1 c board.0) (one_is (Unfinished board.0 Black) cell e) (black_meets board rest some_black (a.both some_black))),
        )
    by a false w bye b false s e later = later e

-- the cell that is set, and the others

pub with_cell-here : (n : ℕ) (cell : Cell) (cells : List Cell) → get_or (with_cell n cell cells) n Blank ≡ cell
with_cell-here zero cell [] = refl
with_cell-here zero cell (first ∷ rest) = refl
with_cell-here (suc n) cell [] = with_cell-here n cell []
with_cell-here (suc n) cell (first ∷ rest) = with_cell-here n cell rest

pub with_cell-there : (n i : ℕ) (cell : Cell) (cells : List Cell) → (i ≡ n → ⊥) → get_or (with_cell n cell cells) i Blank ≡ get_or cells i Blank
with_cell-there zero zero cell cells other = absurd (other refl)
with_cell-there zero (suc i) cell [] other = refl
with_cell-there zero (suc i) cell (first ∷ rest) other = refl
with_cell-there (suc n) zero cell [] other = refl
with_cell-there (suc n) zero cell (first ∷ rest) other = refl
with_cell-there (suc n) (suc i) cell [] other = with_cell-there n i cell [] (λ e. other (ap suc e)) ∙ nothing i
  where
    nothing : (i : ℕ) → ◌≡◌ {A = Cell} (get_or [] i Blank) Blank
    nothing i = get_or_past [] i Blank (omega arith)
with_cell-there (suc n) (suc i) cell (first ∷ rest) other = with_cell-there n i cell rest (λ e. other (ap suc e))

pub cells-there : (boards : List (ℕ × ℕ)) (n i : ℕ) (entry : Entry) → (i ≡ n → ⊥) → get_or (cells_with boards n entry) i Blank ≡ get_or entry.cells i Blank
cells-there boards n i entry other = by (cell_by boards entry.start)
  where
    by : (o : Option Cell) → get_or (option_map_or (λ cell. with_cell n cell entry.cells) o entry.cells) i Blank ≡ get_or entry.cells i Blank
    by None = refl
    by (Some cell) = with_cell-there n i cell entry.cells other

pub cells-here : (boards : List (ℕ × ℕ)) (n : ℕ) (entry : Entry) (cell : Cell) → cell_by boards entry.start ≡ Some cell → get_or (cells_with boards n entry) n Blank ≡ cell
cells-here boards n entry cell e = rw e (with_cell-here n cell entry.cells)

all-there : (bye : ℕ) (boards : List (ℕ × ℕ)) (n i : ℕ) (entries : List Entry) (start : ℕ) → (i ≡ n → ⊥)
    → get_or (cells_of (map (entry_with bye boards n) entries) start) i Blank ≡ get_or (cells_of entries start) i Blank
all-there bye boards n i [] start other = refl
all-there bye boards n i (entry ∷ entries) start other = by (entry.start == start) (all-there bye boards n i entries start other)
  where
    by : (here : Bool) → get_or (cells_of (map (entry_with bye boards n) entries) start) i Blank ≡ get_or (cells_of entries start) i Blank
        → get_or (cond here (cells_with boards n entry) (cells_of (map (entry_with bye boards n) entries) start)) i Blank ≡ get_or (cond here entry.cells (cells_of entries start)) i Blank
    by true later = cells-there boards n i entry other
    by false later = later

all-here : (bye : ℕ) (boards : List (ℕ × ℕ)) (n : ℕ) (entries : List Entry) (start : ℕ) (cell : Cell) → list_any (λ (entry : Entry). entry.start == start) entries ≡ true
    → cell_by boards start ≡ Some cell → get_or (cells_of (map (entry_with bye boards n) entries) start) n Blank ≡ cell
all-here bye boards n [] start cell is e = absurd (true≢false (sym is))
all-here bye boards n (entry ∷ entries) start cell is e = by (entry.start == start) refl is (λ is'. all-here bye boards n entries start cell is' e)
  where
    by : (here : Bool) → (entry.start == start) ≡ here → (here || list_any (λ (entry : Entry). entry.start == start) entries) ≡ true
        → (list_any (λ (entry : Entry). entry.start == start) entries ≡ true → get_or (cells_of (map (entry_with bye boards n) entries) start) n Blank ≡ cell)
        → get_or (cond here (cells_with boards n entry) (cells_of (map (entry_with bye boards n) entries) start)) n Blank ≡ cell
    by true same is later = cells-here boards n entry cell (ap (cell_by boards) (eqb-true entry.start start same) ∙ e)
    by false same is later = later is

-- the last round that is paired

last-more : (cell : Cell) (rest : List Cell) (n : ℕ) → last_paired (cell ∷ rest) ≤ suc n → last_paired rest ≤ n
last-more cell rest n le = by (last_paired rest) (is_paired cell) le (cases_lt 0 (last_paired rest))
  where
    by : (x : ℕ) (b : Bool) → cond (nat_lt 0 x) (x + 1) (cond b 1 0) ≤ suc n → (0 < x) ⊎ (x ≤ 0) → x ≤ n
    by x b le (inl lt) = let h = rw (lt-ltb 0 x lt) at le in omega arith
    by x b le (inr none) = omega arith

last-first : (cell : Cell) (rest : List Cell) → last_paired (cell ∷ rest) ≤ 0 → (is_paired cell ≡ false) × (last_paired rest ≤ 0)
last-first cell rest le = by (last_paired rest) (is_paired cell) le (cases_lt 0 (last_paired rest))
  where
    by : (x : ℕ) (b : Bool) → cond (nat_lt 0 x) (x + 1) (cond b 1 0) ≤ 0 → (0 < x) ⊎ (x ≤ 0) → (b ≡ false) × (x ≤ 0)
    by x b le (inl lt) = let h = rw (lt-ltb 0 x lt) at le in absurd (omega arith)
    by x true le (inr none) = let h = rw (le-ltb 0 x none) at le in absurd (omega arith)
    by x false le (inr none) = (refl, none)

pub not_paired : (n : ℕ) (cells : List Cell) → last_paired cells ≤ n → is_paired (get_or cells n Blank) ≡ false
not_paired zero [] le = refl
not_paired (suc n) [] le = refl
not_paired zero (cell ∷ rest) le = (last-first cell rest le).0
not_paired (suc n) (cell ∷ rest) le = not_paired n rest (last-more cell rest n le)

last-with : (n : ℕ) (cell : Cell) (cells : List Cell) → is_paired cell ≡ true → last_paired cells ≤ n → last_paired (with_cell n cell cells) ≡ n + 1
last-with zero cell [] paired le = rw paired refl
last-with zero cell (first ∷ rest) paired le = rw (le-ltb 0 (last_paired rest) (last-first first rest le).1, paired) refl
last-with (suc n) cell [] paired le =
    let more : last_paired (with_cell n cell []) ≡ n + 1 = last-with n cell [] paired (omega arith) in
    rw (more, lt-ltb 0 (n + 1) (omega arith)) (omega arith)
last-with (suc n) cell (first ∷ rest) paired le =
    let more : last_paired (with_cell n cell rest) ≡ n + 1 = last-with n cell rest paired (last-more first rest n le) in
    rw (more, lt-ltb 0 (n + 1) (omega arith)) (omega arith)

last-cells : (boards : List (ℕ × ℕ)) (n : ℕ) (entry : Entry) (o : Option Cell) → cell_by boards entry.start ≡ o → last_paired entry.cells ≤ n
    → last_paired (cells_with boards n entry) ≡ cond (is_some o) (n + 1) (last_paired entry.cells)
last-cells boards n entry None e le = rw e refl
last-cells boards n entry (Some cell) e le = rw e (last-with n cell entry.cells (given boards entry.start cell e).paired le)

played_most : (bye : ℕ) (boards : List (ℕ × ℕ)) (n : ℕ) (entries : List Entry) → last_paired_of entries ≤ n → last_paired_of (map (entry_with bye boards n) entries) ≤ n + 1
played_most bye boards n [] le = omega arith
played_most bye boards n (entry ∷ entries) le =
    let others : last_paired_of (map (entry_with bye boards n) entries) ≤ n + 1 = played_most bye boards n entries (omega arith) in
    let mine : last_paired entry.cells ≤ n = omega arith in
    let here : last_paired (cells_with boards n entry) ≤ n + 1 = by (cell_by boards entry.start) refl mine in
    omega arith
  where
    by : (o : Option Cell) → cell_by boards entry.start ≡ o → last_paired entry.cells ≤ n → last_paired (cells_with boards n entry) ≤ n + 1
    by None e mine = let same = last-cells boards n entry None e mine in omega arith
    by (Some cell) e mine = let same = last-cells boards n entry (Some cell) e mine in omega arith

played_least : (bye : ℕ) (boards : List (ℕ × ℕ)) (n : ℕ) (entries : List Entry) → last_paired_of entries ≤ n → list_any (λ (entry : Entry). is_some (cell_by boards entry.start)) entries ≡ true
    → n + 1 ≤ last_paired_of (map (entry_with bye boards n) entries)
played_least bye boards n [] le named = absurd (true≢false (sym named))
played_least bye boards n (entry ∷ entries) le named = by (cell_by boards entry.start) refl named (played_least bye boards n entries (omega arith))
  where
    by : (o : Option Cell) → cell_by boards entry.start ≡ o → (is_some o || list_any (λ (entry : Entry). is_some (cell_by boards entry.start)) entries) ≡ true
        → (list_any (λ (entry : Entry). is_some (cell_by boards entry.start)) entries ≡ true → n + 1 ≤ last_paired_of (map (entry_with bye boards n) entries))
        → n + 1 ≤ last_paired_of (map (entry_with bye boards n) (entry ∷ entries))
    by None e named later = let others : n + 1 ≤ last_paired_of (map (entry_with bye boards n) entries) = later named in omega arith
    by (Some cell) e named later =
        let mine : last_paired entry.cells ≤ n = omega arith in
        let same : last_paired (cells_with boards n entry) ≡ n + 1 = last-cells boards n entry (Some cell) e mine in
        omega arith

first_named : (board : ℕ × ℕ) (rest : List (ℕ × ℕ)) → is_some (cell_by (board ∷ rest) board.0) ≡ true
first_named board rest = rw (eq-self board.0) refl

some_named : (board : ℕ × ℕ) (rest : List (ℕ × ℕ)) (entries : List Entry) → list_any (λ (entry : Entry). entry.start == board.0) entries ≡ true
    → list_any (λ (entry : Entry). is_some (cell_by (board ∷ rest) entry.start)) entries ≡ true
some_named board rest [] is = is
some_named board rest (entry ∷ entries) is = by (entry.start == board.0) refl is (some_named board rest entries)
  where
    or_true : (b : Bool) → (b || true) ≡ true
    or_true true = refl
    or_true false = refl

    by : (here : Bool) → (entry.start == board.0) ≡ here → (here || list_any (λ (entry : Entry). entry.start == board.0) entries) ≡ true
        → (list_any (λ (entry : Entry). entry.start == board.0) entries ≡ true → list_any (λ (entry : Entry). is_some (cell_by (board ∷ rest) entry.start)) entries ≡ true)
        → list_any (λ (entry : Entry). is_some (cell_by (board ∷ rest) entry.start)) (entry ∷ entries) ≡ true
    by true e is later =
        ap (λ b. b || list_any (λ (entry : Entry). is_some (cell_by (board ∷ rest) entry.start)) entries)
        (ap (λ n. is_some (cell_by (board ∷ rest) n)) (eqb-true entry.start board.0 e) ∙ first_named board rest)
    by false e is later =
        ap (λ b. is_some (cell_by (board ∷ rest) entry.start) || b) (later is) ∙ or_true (is_some (cell_by (board ∷ rest) entry.start))

-- the rules on two players and on points, in the new report

pub fits-none : (sheet : Sheet) (start round : ℕ) (cell : Cell) → opponent_in_cell cell ≡ None → cell_fits sheet start round cell ≡ fits
unfolding cell_fits
fits-none sheet start round cell none = rw none refl

fits-met : (sheet : Sheet) (boards : List (ℕ × ℕ)) (start round : ℕ) (cell : Cell) (opponent : ℕ) → (m : IsMet boards start cell opponent)
    → known sheet opponent ≡ true → cell_in sheet opponent round ≡ m.theirs → cell_fits sheet start round cell ≡ fits
unfolding cell_fits
fits-met sheet boards start round cell opponent m player theirs = rw (m.names, player, m.another, theirs, m.back, eq-self start) (m.pair round)

pub fits-same : (old new : Sheet) (start round : ℕ) (cell : Cell) → ((o : ℕ) → known new o ≡ known old o) → ((o : ℕ) → cell_in new o round ≡ cell_in old o round)
    → cell_fits new start round cell ≡ cell_fits old start round cell
unfolding cell_fits
fits-same old new start round cell players cells = by (opponent_in_cell cell)
  where
    by : (o : Option ℕ)
        → option_map_or (λ opponent.
        cond (not (known new opponent)) (Err (NoSuchOpponent start round))
        (cond (opponent == start) (Err (SelfOpponent start round))
        (cond (not (option_map_or (λ o. o == start) (opponent_in_cell (cell_in new opponent round)) false)) (Err (NotMutual start round))
        (pair_fits start round cell (cell_in new opponent round))))) o (Ok (tt {0}))
        ≡ option_map_or (λ opponent.
        cond (not (known old opponent)) (Err (NoSuchOpponent start round))
        (cond (opponent == start) (Err (SelfOpponent start round))
        (cond (not (option_map_or (λ o. o == start) (opponent_in_cell (cell_in old opponent round)) false)) (Err (NotMutual start round))
        (pair_fits start round cell (cell_in old opponent round))))) o (Ok (tt {0}))
    by None = refl
    by (Some opponent) = rw (players opponent, cells opponent) refl

pub cells_fit-from : (sheet : Sheet) (start n : ℕ) (cells : List Cell) → ((i : ℕ) → i < length cells → cell_fits sheet start (n + i) (get_or cells i Blank) ≡ fits)
    → cells_fit sheet start n cells ≡ fits
unfolding cells_fit
cells_fit-from sheet start n [] each = refl
cells_fit-from sheet start n (cell ∷ rest) each =
    let place : n + 0 ≡ n = omega arith in
    let here : cell_fits sheet start n cell ≡ fits = subst (λ r. cell_fits sheet start r cell ≡ fits) place (each 0 (omega arith)) in
    let others : cells_fit sheet start (n + 1) rest ≡ fits = cells_fit-from sheet start (n + 1) rest (λ i lt.
    let next : n + suc i ≡ n + 1 + i = omega arith in
    subst (λ r. cell_fits sheet start r (get_or rest i Blank) ≡ fits) next (each (suc i) (omega arith))) in
    rw here others

pub no_opponent : (cell : Cell) → is_paired cell ≡ false → opponent_in_cell cell ≡ None
no_opponent Blank e = refl
no_opponent (Bye bye) e = refl
no_opponent (Game opponent colour rated got) e = absurd (true≢false e)
no_opponent (Forfeit opponent colour won) e = absurd (true≢false e)
no_opponent (Unfinished opponent colour) e = absurd (true≢false e)

-- what is known of a report and the boards of its next round
record IsNext (boards : List (ℕ × ℕ)) (n : ℕ) (old new : Sheet) : Type 0 where
  players : (o : ℕ) → known new o ≡ known old o
  there : (o round : ℕ) → (round - 1 ≡ n → ⊥) → cell_in new o round ≡ cell_in old o round
  here : (o : ℕ) (cell : Cell) → known old o ≡ true → cell_by boards o ≡ Some cell → (round : ℕ) → round - 1 ≡ n → cell_in new o round ≡ cell
  named : AllByRecursion (λ k. known old k ≡ true) (named_by boards)
  some : AllByRecursion (λ k. (k == 0) ≡ false) (named_by boards)
  distinct : IsDistinct nat_eq (named_by boards)
  played : rounds_played new ≡ n + 1

given_fits : (boards : List (ℕ × ℕ)) (n : ℕ) (old new : Sheet) (start : ℕ) (cell : Cell) → IsNext boards n old new → (start == 0) ≡ false → cell_by boards start ≡ Some cell
    → (round : ℕ) → round - 1 ≡ n → cell_fits new start round cell ≡ fits
given_fits boards n old new start cell next player e round at' = by (answered boards start cell player next.some next.distinct e)
  where
    by : Answered boards start cell → cell_fits new start round cell ≡ fits
    by (inl none) = fits-none new start round cell none
    by (inr m) =
        let theirs : known old m.0 ≡ true = all_in (λ k. known old k ≡ true) (named_by boards) m.0 next.named m.1.named in
        fits-met new boards start round cell m.0 m.1 (next.players m.0 ∙ theirs) (next.here m.0 m.1.theirs theirs m.1.given round at')

here_fits : (boards : List (ℕ × ℕ)) (n : ℕ) (old new : Sheet) (entry : Entry) → IsNext boards n old new → (entry.start == 0) ≡ false → last_paired entry.cells ≤ n
    → (round : ℕ) → round - 1 ≡ n → cell_fits new entry.start round (get_or (cells_with boards n entry) n Blank) ≡ fits
here_fits boards n old new entry next player le round at' = by (cell_by boards entry.start) refl
  where
    by : (o : Option Cell) → cell_by boards entry.start ≡ o → cell_fits new entry.start round (get_or (option_map_or (λ cell. with_cell n cell entry.cells) o entry.cells) n Blank) ≡ fits
    by None e = fits-none new entry.start round (get_or entry.cells n Blank) (no_opponent (get_or entry.cells n Blank) (not_paired n entry.cells le))
    by (Some cell) e = rw (with_cell-here n cell entry.cells) (given_fits boards n old new entry.start cell next player e round at')

there_fits : (boards : List (ℕ × ℕ)) (n : ℕ) (old new : Sheet) (entry : Entry) → IsNext boards n old new → cells_fit old entry.start 1 entry.cells ≡ fits
    → (i : ℕ) → (i ≡ n → ⊥) → cell_fits new entry.start (1 + i) (get_or (cells_with boards n entry) i Blank) ≡ fits
there_fits boards n old new entry next fit i other = rw (cells-there boards n i entry other) (by (cases_lt i (length entry.cells)))
  where
    by : (i < length entry.cells) ⊎ (length entry.cells ≤ i) → cell_fits new entry.start (1 + i) (get_or entry.cells i Blank) ≡ fits
    by (inl lt) =
        fits-same old new entry.start (1 + i) (get_or entry.cells i Blank) next.players (λ o. next.there o (1 + i) (λ e. other (omega arith)))
        ∙ cell_of-fit old entry.start 1 entry.cells i lt fit
    by (inr le) = fits-none new entry.start (1 + i) (get_or entry.cells i Blank) (ap opponent_in_cell (get_or_past entry.cells i Blank le))

cells_again : (boards : List (ℕ × ℕ)) (n : ℕ) (old new : Sheet) (entry : Entry) → IsNext boards n old new → (entry.start == 0) ≡ false → last_paired entry.cells ≤ n
    → cells_fit old entry.start 1 entry.cells ≡ fits → cells_fit new entry.start 1 (cells_with boards n entry) ≡ fits
cells_again boards n old new entry next player le fit =
    cells_fit-from new entry.start 1 (cells_with boards n entry) (λ i lt. by i (nat_eq i n) refl)
  where
    by : (i : ℕ) (b : Bool) → nat_eq i n ≡ b → cell_fits new entry.start (1 + i) (get_or (cells_with boards n entry) i Blank) ≡ fits
    by i true e =
        let same : i ≡ n = eqb-true i n e in
        subst (λ k. cell_fits new entry.start (1 + i) (get_or (cells_with boards n entry) k Blank) ≡ fits) (sym same)
        (here_fits boards n old new entry next player le (1 + i) (omega arith))
    by i false e = there_fits boards n old new entry next fit i (eqb-false i n e)

points_again : (boards : List (ℕ × ℕ)) (n : ℕ) (new : Sheet) (entry : Entry) → rounds_played new ≡ n + 1 → points_fit new (entry_with new.bye boards n entry) ≡ fits
unfolding points_fit
points_again boards n new entry played = by entry.points
  where
    sum : ℕ
    sum = sum_by (half_points new.bye) (take (n + 1) (cells_with boards n entry))

    by : (o : Option ℕ)
        → option_map_or (λ points.
        cond ((points == sum_by (half_points new.bye) (take (rounds_played new) (cells_with boards n entry))) || (points == sum_by (half_points new.bye) (cells_with boards n entry))
        || (has_other_points new && nat_lt points 200)) (Ok tt) (Err (Points entry.start)))
        (option_map (λ _. sum_by (half_points new.bye) (take (n + 1) (cells_with boards n entry))) o) (Ok (tt {0})) ≡ fits
    by None = refl
    by (Some points) = rw (played, eq-self (sum_by (half_points new.bye) (take (n + 1) (cells_with boards n entry)))) refl

players_again : (utf8 : Bool) (boards : List (ℕ × ℕ)) (n : ℕ) (old new : Sheet) (entries : List Entry) → IsNext boards n old new → are_all_sound utf8 entries
    → last_paired_of entries ≤ n → players_fit old entries ≡ fits → players_fit new (map (entry_with new.bye boards n) entries) ≡ fits
unfolding players_fit player_fits
players_again utf8 boards n old new [] next sound le fit = refl
players_again utf8 boards n old new (entry ∷ entries) next sound le fit =
    let outer = then_ok (player_fits old entry) (λ _. players_fit old entries) (tt {0}) fit in
    let inner = then_ok (cells_fit old entry.start 1 entry.cells) (λ _. points_fit old entry) (tt {0}) outer.1 in
    let cells : cells_fit new entry.start 1 (cells_with boards n entry) ≡ fits = cells_again boards n old new entry next sound.0.some (omega arith) inner.1 in
    let points : points_fit new (entry_with new.bye boards n entry) ≡ fits = points_again boards n new entry next.played in
    rw (cells, points) (players_again utf8 boards n old new entries next sound.1 (omega arith) outer.2)

-- pairing a round, as a change of players

abbrev is_small : ℕ → Bool
is_small n = nat_lt 0 n && nat_lt n 10000

given_sound : (boards : List (ℕ × ℕ)) (cell : Cell) → AllByRecursion (λ k. is_small k ≡ true) (named_by boards) → IsGiven boards cell → is_sound cell ≡ true
given_sound boards cell small g = by (opponent_in_cell cell) refl
  where
    by : (o : Option ℕ) → opponent_in_cell cell ≡ o → option_map_or (λ opponent. nat_lt 0 opponent && nat_lt opponent 10000) o true ≡ true
    by None e = refl
    by (Some opponent) e = all_in (λ k. is_small k ≡ true) (named_by boards) opponent small (g.names opponent e)

pub all-with : (n : ℕ) (cell : Cell) (cells : List Cell) → is_sound cell ≡ true → list_all is_sound cells ≡ true → list_all is_sound (with_cell n cell cells) ≡ true
all-with zero cell [] here all = and_from (is_sound cell) true here refl
all-with zero cell (first ∷ rest) here all = and_from (is_sound cell) (list_all is_sound rest) here (and_parts (is_sound first) (list_all is_sound rest) all).1
all-with (suc n) cell [] here all = all-with n cell [] here refl
all-with (suc n) cell (first ∷ rest) here all =
    let both = and_parts (is_sound first) (list_all is_sound rest) all in
    and_from (is_sound first) (list_all is_sound (with_cell n cell rest)) both.0 (all-with n cell rest here both.1)

pub length-with : (n : ℕ) (cell : Cell) (cells : List Cell) → length (with_cell n cell cells) ≤ max (n + 1) (length cells)
length-with zero cell [] = omega arith
length-with zero cell (first ∷ rest) = omega arith
length-with (suc n) cell [] = let later : length (with_cell n cell []) ≤ max (n + 1) 0 = length-with n cell [] in omega arith
length-with (suc n) cell (first ∷ rest) = let later : length (with_cell n cell rest) ≤ max (n + 1) (length rest) = length-with n cell rest in omega arith

not_all_blank : (n : ℕ) (cell : Cell) (cells : List Cell) → is_blank_cell cell ≡ false → list_all is_blank_cell (with_cell n cell cells) ≡ false
not_all_blank zero cell [] said = rw said refl
not_all_blank zero cell (first ∷ rest) said = rw said refl
not_all_blank (suc n) cell [] said = not_all_blank n cell [] said
not_all_blank (suc n) cell (first ∷ rest) said = rw (not_all_blank n cell rest said) (by (is_blank_cell first))
  where
    by : (b : Bool) → (b && false) ≡ false
    by true = refl
    by false = refl

cut_tail : (first : Cell) (rest : List Cell) → without_last is_blank_cell (first ∷ rest) ≡ first ∷ rest → without_last is_blank_cell rest ≡ rest
cut_tail first rest e = by (is_blank_cell first && list_all is_blank_cell rest) (without_last is_blank_cell rest) e
  where
    by : (b : Bool) (cut : List Cell) → cond b [] (first ∷ cut) ≡ first ∷ rest → cut ≡ rest
    by true cut e = cc
    by false cut e = cc

cut-with : (n : ℕ) (cell : Cell) (cells : List Cell) → is_blank_cell cell ≡ false → without_last is_blank_cell cells ≡ cells
    → without_last is_blank_cell (with_cell n cell cells) ≡ with_cell n cell cells
cut-with zero cell [] said cut = rw said refl
cut-with zero cell (first ∷ rest) said cut = rw said (ap (λ (cs : List Cell). cell ∷ cs) (cut_tail first rest cut))
cut-with (suc n) cell [] said cut = rw (not_all_blank n cell [] said) (ap (λ (cs : List Cell). Blank ∷ cs) (cut-with n cell [] said cut))
cut-with (suc n) cell (first ∷ rest) said cut =
    let later : list_all is_blank_cell (first ∷ with_cell n cell rest) ≡ false = not_all_blank (suc n) cell (first ∷ rest) said in
    ap (λ b. cond b [] (first ∷ without_last is_blank_cell (with_cell n cell rest))) later
    ∙ ap (λ (cs : List Cell). first ∷ cs) (cut-with n cell rest said (cut_tail first rest cut))

record AreSound (cells : List Cell) : Type 0 where
  sound : list_all is_sound cells ≡ true
  few : length cells ≤ MOST_ROUNDS
  cut : without_last is_blank_cell cells ≡ cells

sound-with : (utf8 : Bool) (boards : List (ℕ × ℕ)) (n : ℕ) (entry : Entry) → AllByRecursion (λ k. is_small k ≡ true) (named_by boards) → n < MOST_ROUNDS → IsSoundEntry utf8 entry
    → AreSound (cells_with boards n entry)
sound-with utf8 boards n entry small lt s = by (cell_by boards entry.start) refl
  where
    by : (o : Option Cell) → cell_by boards entry.start ≡ o → AreSound (option_map_or (λ cell. with_cell n cell entry.cells) o entry.cells)
    by None e = record { sound = s.sound; few = s.few; cut = s.cut }
    by (Some cell) e =
        let g = given boards entry.start cell e in
        let few : length entry.cells ≤ MOST_ROUNDS = s.few in
        let most : length (with_cell n cell entry.cells) ≤ max (n + 1) (length entry.cells) = length-with n cell entry.cells in
        record {
          sound = all-with n cell entry.cells (given_sound boards cell small g) s.sound;
          few = omega arith;
          cut = cut-with n cell entry.cells g.said s.cut;
        }

turns_with : (utf8 : Bool) (bye : ℕ) (boards : List (ℕ × ℕ)) (n : ℕ) → AllByRecursion (λ k. is_small k ≡ true) (named_by boards) → n < MOST_ROUNDS → Turns utf8 (entry_with bye boards n)
turns_with utf8 bye boards n small lt = record {
  start = λ entry. refl;
  line = λ entry. refl;
  left = λ entry. refl;
  right = λ entry. refl;
  sound = λ entry s.
      let cells = sound-with utf8 boards n entry small lt s in
      record { start = s.start; some = s.some; left = s.left; right = s.right; sound = cells.sound; few = cells.few; cut = cells.cut };
}

-- the whole

small_start : (start : ℕ) → start < 10000 → (start == 0) ≡ false → is_small start ≡ true
small_start start lt some = by (cases_lt 0 start)
  where
    by : (0 < start) ⊎ (start ≤ 0) → is_small start ≡ true
    by (inl pos) = and_from (nat_lt 0 start) (nat_lt start 10000) (lt-ltb 0 start pos) (lt-ltb start 10000 lt)
    by (inr none) = absurd (eqb-false start 0 some (omega arith))

some_small : (n : ℕ) → is_small n ≡ true → (n == 0) ≡ false
some_small n small =
    let pos : 0 < n = ltb-true 0 n (and_parts (nat_lt 0 n) (nat_lt n 10000) small).0 in
    ne_eqb n 0 (λ e. omega (arith, e))

known_small : (utf8 : Bool) (entries : List Entry) (n : ℕ) → are_all_sound utf8 entries → list_any (λ (entry : Entry). entry.start == n) entries ≡ true → is_small n ≡ true
known_small utf8 [] n sound is = absurd (true≢false (sym is))
known_small utf8 (entry ∷ entries) n sound is = by (entry.start == n) refl is (known_small utf8 entries n sound.1)
  where
    by : (here : Bool) → (entry.start == n) ≡ here → (here || list_any (λ (entry : Entry). entry.start == n) entries) ≡ true
        → (list_any (λ (entry : Entry). entry.start == n) entries ≡ true → is_small n ≡ true) → is_small n ≡ true
    by true e is later = subst (λ k. is_small k ≡ true) (eqb-true entry.start n e) (small_start entry.start sound.0.start sound.0.some)
    by false e is later = later is

all_more : (P Q : ℕ → Type 0) (xs : List ℕ) → ((n : ℕ) → P n → Q n) → AllByRecursion P xs → AllByRecursion Q xs
all_more P Q [] more all = tt
all_more P Q (x ∷ xs) more all = (more x all.0, all_more P Q xs more all.1)

pub played_again : (boards : List (ℕ × ℕ)) (sheet : Sheet) → 0 < length boards → AllByRecursion (λ k. known sheet k ≡ true) (named_by boards)
    → rounds_played (with_round boards sheet) ≡ rounds_played sheet + 1
played_again [] sheet some named = absurd (omega arith)
played_again (board ∷ rest) sheet some named =
    let n = rounds_played sheet in
    let first : known sheet board.0 ≡ true = all_in (λ k. known sheet k ≡ true) (named_by (board ∷ rest)) board.0 named (named_head board rest) in
    let most : last_paired_of (map (entry_with sheet.bye (board ∷ rest) n) sheet.players) ≤ n + 1 = played_most sheet.bye (board ∷ rest) n sheet.players (omega arith) in
    let least : n + 1 ≤ last_paired_of (map (entry_with sheet.bye (board ∷ rest) n) sheet.players) =
    played_least sheet.bye (board ∷ rest) n sheet.players (omega arith) (some_named board rest sheet.players first) in
    omega arith

pub round_again : (bytes : List ℕ) (bye : ℕ) (report : Sheet) (boards : List (ℕ × ℕ)) → bye ≤ 2 → verdict bytes bye ≡ Ok report → CanBePaired boards report → 0 < length boards
    → length (written (with_round boards report)) ≤ MOST_BYTES → verdict (written (with_round boards report)) report.bye ≡ Ok (with_round boards report)
round_again bytes bye report boards worth e can some few =
    let n = rounds_played report in
    let sound = were_sound bytes bye report e in
    let named : AllByRecursion (λ k. known report k ≡ true) (named_by boards) = recursion_from_All (λ k. known report k ≡ true) (named_by boards) can.players in
    let small : AllByRecursion (λ k. is_small k ≡ true) (named_by boards) =
    all_more (λ k. known report k ≡ true) (λ k. is_small k ≡ true) (named_by boards) (λ k is. known_small report.utf8 report.players k sound is) named in
    let turns : Turns report.utf8 (entry_with report.bye boards n) = turns_with report.utf8 report.bye boards n small can.within in
    let next : IsNext boards n report (with_round boards report) = record {
      players = λ o. known-turned report.utf8 (entry_with report.bye boards n) report.players o turns;
      there = λ o round other. all-there report.bye boards n (round - 1) report.players o other;
      here = λ o cell is given round at'.
          ap (λ i. get_or (cells_of (map (entry_with report.bye boards n) report.players) o) i Blank) at' ∙ all-here report.bye boards n report.players o cell is given;
      named = named;
      some = all_more (λ k. is_small k ≡ true) (λ k. (k == 0) ≡ false) (named_by boards) some_small small;
      distinct = can.once;
      played = played_again boards report some named;
    } in
    written_again bytes bye report (entry_with report.bye boards n) worth e turns
    (players_again report.utf8 boards n report (with_round boards report) report.players next sound (omega arith) (accepted bytes bye report e).1) few
