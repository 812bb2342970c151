-- Boards that are put into a report as its next round, and stand in their order, are the boards of that round.
--
-- Each board that is put gives its players cells that name each other, or U, and nobody else is paired in the round. So the boards of the
-- round are those that were put, in some order; and there is one order.
use Rattle.std.proofs.Common.{◌≡◌, ◌⊎◌, inl, inr, ℕ, ◌+◌, ◌-◌, ◌<◌, ◌≤◌, Bool, true, false, cond, List, [], ◌∷◌, refl, sym, ap, ◌∙◌, subst, map, get_or, Option, Some, None, arith}
use Rattle.std.specs.Prelude.{◌==◌, ◌||◌, not, nat_eq, nat_lt}
use Rattle.std.specs.Cmp.{IsStrictWeakOrder, IsTotalOrder}
use Rattle.std.specs.List.{AllByRecursion, IsDistinct, cons_option, filter_map, list_any}
use Rattle.std.specs.Option.{option_map_or}
use Rattle.std.specs.Ordering.{bool_cmp, nat_cmp, is_lt, ordering_reverse, ordering_then}
use Rattle.std.specs.declared.cmp.Ordering.{Ordering}
use Rattle.std.specs.declared.cmp.Ordering.TheVariants.{Less, Equal, Greater}
use Rattle.std.proofs.lemmas.Bool.{eqb-true, ne_eqb, true≢false}
use Rattle.std.specs.Cmp.{bool_cmp_total}
use Rattle.std.proofs.lemmas.Cmp.{nat_cmp_total, on_total, then_total, back_total}
use Rattle.std.proofs.lemmas.List.Elements.{recursion_from_All}
use Rattle.std.proofs.lemmas.List.Sorted.{ranks_by}
use Rattle.std.proofs.lemmas.Map.Keys.{IsDistinct-IsPermutation, IsDistinct-head, IsDistinct-tail}
use Rattle.trf16_report.specs.declared.cell.Bye.TheVariants.{Half, Full, Allocated, Zero}
use Rattle.trf16_report.specs.declared.cell.Cell.{Cell}
use Rattle.trf16_report.specs.declared.cell.Cell.TheVariants.{Blank, Bye, Game, Forfeit, Unfinished}
use Rattle.trf16_report.specs.declared.cell.Colour.TheVariants.{White, Black}
use Rattle.trf16_report.specs.Prelude.{CanBePaired, Entry, HasOwnStarts, Sheet, cell_by, cell_in, cell_on, cells_of, colour_in_cell, cells_with, entry_with, is_paired, known, last_paired, last_paired_of, named_by, ranked_by, rounds_played, starts_of, with_round}
use Rattle.trf16_writer.proofs.BoardLemmas.{all_in, eq-self, eq-sym}
use Rattle.trf16_laws.proofs.PairedRound.{cells-here, named_black, named_head, named_tail, not_paired}
use Rattle.trf16_report.proofs.RankLemmas.{ranked_moves, ranked_ranks}
use Rattle.trf16_writer.proofs.RoundLemmas.{starts-with}
use Rattle.tables.specs.declared.board.RankedBoard.{RankedBoard}
use Rattle.tables.specs.Prelude.{board_at, board_by, boards_of, boards_unordered, colour_by, colour_in, board_goes_before, place_cmp, ranks_above, score_before, with_colour}
use Rattle.tables.specs.Boards.{board_of_bye, board_of_two}
use Rattle.report_laws.proofs.HostLemmas.{above_other, first-above}
use Rattle.report_laws.proofs.BoardOrders.{In, IsStrict, in-made, in-map, in-ranked, made-in, map-in, ranked-in, same_list, strict_from}

-- ---- the order of boards

place_total : IsTotalOrder place_cmp
place_total =
    then_total (on_total (λ (r : RankedBoard). r.has_bye) bool_cmp_total)
    (then_total (back_total (on_total (λ (r : RankedBoard). r.score) nat_cmp_total))
    (then_total (back_total (on_total (λ (r : RankedBoard). r.both_scores) nat_cmp_total)) (on_total (λ (r : RankedBoard). r.start) nat_cmp_total)))

abbrev same_start : RankedBoard → RankedBoard → Bool
same_start a b = a.start == b.start

then_equal : (o p : Ordering) → ordering_then o p ≡ Equal → p ≡ Equal
then_equal Less p e = absurd (cc)
then_equal Equal p e = e
then_equal Greater p e = absurd (cc)

nat_equal : (a b : ℕ) → nat_cmp a b ≡ Equal → (a == b) ≡ true
nat_equal a b e = by (nat_lt a b) (a == b) e
  where
    by : (lt same : Bool) → cond lt Less (cond same Equal Greater) ≡ Equal → same ≡ true
    by true same e = absurd (cc)
    by false true e = refl
    by false false e = absurd (cc)

start_equal : (a b : RankedBoard) → place_cmp a b ≡ Equal → same_start a b ≡ true
start_equal a b e =
    let scores = then_equal (bool_cmp a.has_bye b.has_bye) (ordering_then (nat_cmp b.score a.score) (ordering_then (nat_cmp b.both_scores a.both_scores) (nat_cmp a.start b.start))) e in
    let sums = then_equal (nat_cmp b.score a.score) (ordering_then (nat_cmp b.both_scores a.both_scores) (nat_cmp a.start b.start)) scores in
    nat_equal a.start b.start (then_equal (nat_cmp b.both_scores a.both_scores) (nat_cmp a.start b.start) sums)

-- of two boards with other start ranks one goes before the other
pub one_before : (a b : RankedBoard) → board_goes_before b a ≡ false → same_start a b ≡ false → board_goes_before a b ≡ true
one_before a b behind other = by (place_cmp b a) (place_cmp a b) behind (place_total.antisymm a b) (start_equal a b)
  where
    by : (o p : Ordering) → is_lt o ≡ false → p ≡ ordering_reverse o → (p ≡ Equal → same_start a b ≡ true) → is_lt p ≡ true
    by Less p behind e equal = absurd (cc)
    by Equal p behind e equal = absurd (true≢false (sym (equal e) ∙ other))
    by Greater p behind e equal = ap is_lt e

-- ---- whom boards name

pub rest_distinct : (board : ℕ × ℕ) (rest : List (ℕ × ℕ)) → IsDistinct nat_eq (named_by (board ∷ rest)) → IsDistinct nat_eq (named_by rest)
rest_distinct board rest distinct = by (board.1 == 0) distinct
  where
    by : (bye : Bool) → IsDistinct nat_eq (cond bye (board.0 ∷ named_by rest) (board.0 ∷ board.1 ∷ named_by rest)) → IsDistinct nat_eq (named_by rest)
    by true d = IsDistinct-tail nat_eq board.0 (named_by rest) d
    by false d = IsDistinct-tail nat_eq board.1 (named_by rest) (IsDistinct-tail nat_eq board.0 (board.1 ∷ named_by rest) d)

pub both_apart : (board : ℕ × ℕ) (rest : List (ℕ × ℕ)) → IsDistinct nat_eq (named_by (board ∷ rest)) → (board.1 == 0) ≡ false → (board.0 == board.1) ≡ false
both_apart board rest distinct some = by (board.1 == 0) some distinct
  where
    by : (bye : Bool) → bye ≡ false → IsDistinct nat_eq (cond bye (board.0 ∷ named_by rest) (board.0 ∷ board.1 ∷ named_by rest)) → (board.0 == board.1) ≡ false
    by true e d = absurd (true≢false e)
    by false e d = (IsDistinct-head nat_eq board.0 (board.1 ∷ named_by rest) d).0

-- a board names nobody whom a later one names
pub apart_from : (board : ℕ × ℕ) (rest : List (ℕ × ℕ)) (n : ℕ) → IsDistinct nat_eq (named_by (board ∷ rest)) → 0 < n → list_any (nat_eq n) (named_by rest) ≡ true
    → ((board.0 == n) ≡ false) × ((board.1 == n) ≡ false)
apart_from board rest n distinct more named = by (board.1 == 0) refl distinct
  where
    by : (bye : Bool) → (board.1 == 0) ≡ bye → IsDistinct nat_eq (cond bye (board.0 ∷ named_by rest) (board.0 ∷ board.1 ∷ named_by rest))
        → ((board.0 == n) ≡ false) × ((board.1 == n) ≡ false)
    by true e d =
        let none : board.1 ≡ 0 = eqb-true board.1 0 e in (
          all_in (λ k. nat_eq board.0 k ≡ false) (named_by rest) n (IsDistinct-head nat_eq board.0 (named_by rest) d) named,
          ne_eqb board.1 n (λ same. omega (arith, none, same, more)),
        )
    by false e d = (
      all_in (λ k. nat_eq board.0 k ≡ false) (named_by rest) n (IsDistinct-head nat_eq board.0 (board.1 ∷ named_by rest) d).1 named,
      all_in (λ k. nat_eq board.1 k ≡ false) (named_by rest) n
          (IsDistinct-head nat_eq board.1 (named_by rest) (IsDistinct-tail nat_eq board.0 (board.1 ∷ named_by rest) d)) named,
    )

-- who stands on one of some boards is named by them
white_named : (boards : List (ℕ × ℕ)) (board : ℕ × ℕ) → In board boards → list_any (nat_eq board.0) (named_by boards) ≡ true
white_named [] board member = absurd member
white_named (first ∷ rest) board (inl same) = subst (λ (b : ℕ × ℕ). list_any (nat_eq b.0) (named_by (first ∷ rest)) ≡ true) same (named_head first rest)
white_named (first ∷ rest) board (inr member) = named_tail first rest board.0 (white_named rest board member)

black_named : (boards : List (ℕ × ℕ)) (board : ℕ × ℕ) → In board boards → (board.1 == 0) ≡ false → list_any (nat_eq board.1) (named_by boards) ≡ true
black_named [] board member some = absurd member
black_named (first ∷ rest) board (inl same) some =
    subst (λ (b : ℕ × ℕ). list_any (nat_eq b.1) (named_by (first ∷ rest)) ≡ true) same (named_black first rest (ap (λ (b : ℕ × ℕ). b.1 == 0) same ∙ some))
black_named (first ∷ rest) board (inr member) some = named_tail first rest board.1 (black_named rest board member some)

-- ---- the cells that boards give

-- what the first board that names a player gives is given by one of the boards
by_one : (boards : List (ℕ × ℕ)) (start : ℕ) (cell : Cell) → cell_by boards start ≡ Some cell → (board : ℕ × ℕ) × In board boards × (cell_on board start ≡ Some cell)
by_one [] start cell e = absurd (cc)
by_one (board ∷ rest) start cell e = by (cell_on board start) refl e (λ later. by_one rest start cell later)
  where
    by : (o : Option Cell) → cell_on board start ≡ o → option_map_or (λ c. Some c) o (cell_by rest start) ≡ Some cell
        → (cell_by rest start ≡ Some cell → (b : ℕ × ℕ) × In b rest × (cell_on b start ≡ Some cell))
        → (b : ℕ × ℕ) × In b (board ∷ rest) × (cell_on b start ≡ Some cell)
    by None is e later = let found = later e in (found.0, inr found.1, found.2)
    by (Some given) is e later = (board, inl refl, is ∙ e)

-- a player whom a later board names has their cell from there
by_later : (board : ℕ × ℕ) (rest : List (ℕ × ℕ)) (n : ℕ) → ((board.0 == n) ≡ false) × ((board.1 == n) ≡ false) → cell_by (board ∷ rest) n ≡ cell_by rest n
by_later board rest n other = rw (other.0, other.1) refl

-- white's cell
white_by : (boards : List (ℕ × ℕ)) (board : ℕ × ℕ) → In board boards → IsDistinct nat_eq (named_by boards) → 0 < board.0
    → cell_by boards board.0 ≡ Some (cond (board.1 == 0) (Bye Allocated) (Unfinished board.1 White))
white_by [] board member distinct more = absurd member
white_by (first ∷ rest) board (inl same) distinct more =
    subst (λ (b : ℕ × ℕ). cell_by (first ∷ rest) b.0 ≡ Some (cond (b.1 == 0) (Bye Allocated) (Unfinished b.1 White))) same (rw (eq-self first.0) refl)
white_by (first ∷ rest) board (inr member) distinct more =
    by_later first rest board.0 (apart_from first rest board.0 distinct more (white_named rest board member))
    ∙ white_by rest board member (rest_distinct first rest distinct) more

-- black's cell
black_by : (boards : List (ℕ × ℕ)) (board : ℕ × ℕ) → In board boards → IsDistinct nat_eq (named_by boards) → 0 < board.1
    → cell_by boards board.1 ≡ Some (Unfinished board.0 Black)
black_by [] board member distinct more = absurd member
black_by (first ∷ rest) board (inl same) distinct more =
    let more' : 0 < first.1 = subst (λ (b : ℕ × ℕ). 0 < b.1) (sym same) more in
    let some : (first.1 == 0) ≡ false = ne_eqb first.1 0 (λ e. omega (arith, e, more')) in
    subst (λ (b : ℕ × ℕ). cell_by (first ∷ rest) b.1 ≡ Some (Unfinished b.0 Black)) same (rw (both_apart first rest distinct some, eq-self first.1) refl)
black_by (first ∷ rest) board (inr member) distinct more =
    let some : (board.1 == 0) ≡ false = ne_eqb board.1 0 (λ e. omega (arith, e, more)) in
    by_later first rest board.1 (apart_from first rest board.1 distinct more (black_named rest board member some))
    ∙ black_by rest board member (rest_distinct first rest distinct) more

-- a player on a board has white, or has black
which_side : (board : ℕ × ℕ) (start : ℕ) (cell : Cell) → cell_on board start ≡ Some cell → (board.0 ≡ start) ⊎ (board.1 ≡ start)
which_side board start cell e = by (board.0 == start) refl (board.1 == start) refl e
  where
    by : (white : Bool) → (board.0 == start) ≡ white → (black : Bool) → (board.1 == start) ≡ black
        → cond white (Some (cond (board.1 == 0) (Bye Allocated) (Unfinished board.1 White))) (cond black (Some (Unfinished board.0 Black)) None) ≡ Some cell
        → (board.0 ≡ start) ⊎ (board.1 ≡ start)
    by true w black b e = inl (eqb-true board.0 start w)
    by false w true b e = inr (eqb-true board.1 start b)
    by false w false b e = absurd (cc)

-- ---- the cells of the round

named-cells : (bye : ℕ) (boards : List (ℕ × ℕ)) (n : ℕ) (entries : List Entry) (start : ℕ) (cell : Cell) → list_any (λ (entry : Entry). entry.start == start) entries ≡ true
    → cell_by boards start ≡ Some cell → get_or (cells_of (map (entry_with bye boards n) entries) start) n Blank ≡ cell
named-cells bye boards n [] start cell is e = absurd (true≢false (sym is))
named-cells bye boards n (entry ∷ entries) start cell is e = by (entry.start == start) refl is (λ is'. named-cells bye boards n entries start cell is' e)
  where
    by : (here : Bool) → (entry.start == start) ≡ here → (here || list_any (λ (entry : Entry). entry.start == start) entries) ≡ true
        → (list_any (λ (entry : Entry). entry.start == start) entries ≡ true → get_or (cells_of (map (entry_with bye boards n) entries) start) n Blank ≡ cell)
        → get_or (cond here (cells_with boards n entry) (cells_of (map (entry_with bye boards n) entries) start)) n Blank ≡ cell
    by true same is later = cells-here boards n entry cell (ap (cell_by boards) (eqb-true entry.start start same) ∙ e)
    by false same is later = later is

other-cells : (bye : ℕ) (boards : List (ℕ × ℕ)) (n : ℕ) (entries : List Entry) (start : ℕ) → cell_by boards start ≡ None
    → cells_of (map (entry_with bye boards n) entries) start ≡ cells_of entries start
other-cells bye boards n [] start e = refl
other-cells bye boards n (entry ∷ entries) start e = by (entry.start == start) refl (other-cells bye boards n entries start e)
  where
    by : (here : Bool) → (entry.start == start) ≡ here → cells_of (map (entry_with bye boards n) entries) start ≡ cells_of entries start
        → cond here (cells_with boards n entry) (cells_of (map (entry_with bye boards n) entries) start) ≡ cond here entry.cells (cells_of entries start)
    by true same later = let none : cell_by boards entry.start ≡ None = ap (cell_by boards) (eqb-true entry.start start same) ∙ e in rw none refl
    by false same later = later

pub last-one : (entries : List Entry) (start : ℕ) → last_paired (cells_of entries start) ≤ last_paired_of entries
last-one [] start = omega arith
last-one (entry ∷ entries) start = by (entry.start == start) (last-one entries start)
  where
    by : (here : Bool) → last_paired (cells_of entries start) ≤ last_paired_of entries
        → last_paired (cond here entry.cells (cells_of entries start)) ≤ last_paired_of (entry ∷ entries)
    by true le = omega arith
    by false le = omega (arith, le)

in-starts : (entries : List Entry) (start : ℕ) → list_any (λ (e : Entry). e.start == start) entries ≡ true → (entry : Entry) × In entry entries × (entry.start ≡ start)
in-starts [] start is = absurd (true≢false (sym is))
in-starts (entry ∷ entries) start is = by (entry.start == start) refl is (λ later. in-starts entries start later)
  where
    by : (here : Bool) → (entry.start == start) ≡ here → (here || list_any (λ (e : Entry). e.start == start) entries) ≡ true
        → (list_any (λ (e : Entry). e.start == start) entries ≡ true → (e : Entry) × In e entries × (e.start ≡ start))
        → (e : Entry) × In e (entry ∷ entries) × (e.start ≡ start)
    by true same is later = (entry, inl refl, eqb-true entry.start start same)
    by false same is later = let found = later is in (found.0, inr found.1, found.2)

-- ---- boards that are made of players with other start ranks have other start ranks

module _ (f : Entry → Option RankedBoard) (starts : (entry : Entry) (r : RankedBoard) → f entry ≡ Some r → r.start ≡ entry.start) where
  made_apart : (start : ℕ) (r : RankedBoard) (es : List Entry) → r.start ≡ start → AllByRecursion (λ n. nat_eq start n ≡ false) (starts_of es)
      → AllByRecursion (λ other. same_start r other ≡ false) (filter_map f es)
  made_apart start r [] is all = tt
  made_apart start r (e ∷ es) is all = by (f e) refl (made_apart start r es is all.1)
    where
      by : (o : Option RankedBoard) → f e ≡ o → AllByRecursion (λ other. same_start r other ≡ false) (filter_map f es)
          → AllByRecursion (λ other. same_start r other ≡ false) (cons_option o (filter_map f es))
      by None made later = later
      by (Some other) made later = (ap (λ n. n == other.start) is ∙ (ap (λ n. start == n) (starts e other made) ∙ all.0), later)

  made_distinct : (es : List Entry) → IsDistinct nat_eq (starts_of es) → IsDistinct same_start (filter_map f es)
  unfolding IsDistinct
  made_distinct [] distinct = tt
  made_distinct (e ∷ es) distinct = by (f e) refl (made_distinct es distinct.1)
    where
      by : (o : Option RankedBoard) → f e ≡ o → IsDistinct same_start (filter_map f es) → IsDistinct same_start (cons_option o (filter_map f es))
      by None made later = later
      by (Some r) made later = (made_apart e.start r es (starts e r made) distinct.0, later)

flips : (a b : RankedBoard) → same_start a b ≡ same_start b a
flips a b = eq-sym a.start b.start

-- ---- the boards of the round

-- a board with what its place goes by
abbrev pub rank : Sheet → ℕ → ℕ × ℕ → RankedBoard
rank sheet round board =
    cond (board.1 == 0) (board_of_bye sheet round board.0)
    (cond (ranks_above sheet round board.0 board.1) (board_of_two sheet round board.0 board.1) (board_of_two sheet round board.1 board.0))

one_is : (r s : RankedBoard) → ◌≡◌ {A = Option RankedBoard} (Some r) (Some s) → r ≡ s
one_is r s e = cc

none_is : (r : RankedBoard) → ◌≡◌ {A = Option RankedBoard} None (Some r) → ⊥
none_is r e = cc

module _ (sheet : Sheet) (round : ℕ) where
  start-bye : (start : ℕ) → (board_of_bye sheet round start).start ≡ start
  unfolding board_of_bye
  start-bye start = refl

  start-two : (high low : ℕ) → (board_of_two sheet round high low).start ≡ high
  unfolding board_of_two
  start-two high low = refl

  start-lower : (start opponent : ℕ) (r : RankedBoard) → cond (ranks_above sheet round start opponent) (Some (board_of_two sheet round start opponent)) None ≡ Some r
      → r.start ≡ start
  start-lower start opponent r e = by (ranks_above sheet round start opponent) e
    where
      by : (t : Bool) → cond t (Some (board_of_two sheet round start opponent)) None ≡ Some r → r.start ≡ start
      by true e = ap (λ (x : RankedBoard). x.start) (sym (one_is (board_of_two sheet round start opponent) r e)) ∙ start-two start opponent
      by false e = absurd (none_is r e)

  -- the board that a cell makes begins with its player
  start-by : (start : ℕ) (cell : Cell) (r : RankedBoard) → board_by sheet round start cell ≡ Some r → r.start ≡ start
  start-by start Blank r e = absurd (none_is r e)
  start-by start (Bye Half) r e = absurd (none_is r e)
  start-by start (Bye Full) r e = absurd (none_is r e)
  start-by start (Bye Zero) r e = absurd (none_is r e)
  start-by start (Bye Allocated) r e = ap (λ (x : RankedBoard). x.start) (sym (one_is (board_of_bye sheet round start) r e)) ∙ start-bye start
  start-by start (Game opponent colour rated got) r e = start-lower start opponent r e
  start-by start (Forfeit opponent colour won) r e = start-lower start opponent r e
  start-by start (Unfinished opponent colour) r e = start-lower start opponent r e

  -- a cell that is not paired makes no board
  none-by : (start : ℕ) (cell : Cell) → is_paired cell ≡ false → board_by sheet round start cell ≡ None
  none-by start Blank e = refl
  none-by start (Bye Half) e = refl
  none-by start (Bye Full) e = refl
  none-by start (Bye Zero) e = refl
  none-by start (Bye Allocated) e = absurd (true≢false e)
  none-by start (Game opponent colour rated got) e = absurd (true≢false e)
  none-by start (Forfeit opponent colour won) e = absurd (true≢false e)
  none-by start (Unfinished opponent colour) e = absurd (true≢false e)

in-any : (entries : List Entry) (entry : Entry) → In entry entries → list_any (λ (e : Entry). e.start == entry.start) entries ≡ true
in-any [] entry member = absurd member
in-any (first ∷ rest) entry (inl same) =
    let here : (first.start == entry.start) ≡ true = ap (λ (e : Entry). e.start == entry.start) same ∙ eq-self entry.start in rw here refl
in-any (first ∷ rest) entry (inr member) = by (first.start == entry.start) (in-any rest entry member)
  where
    by : (t : Bool) → list_any (λ (e : Entry). e.start == entry.start) rest ≡ true → (t || list_any (λ (e : Entry). e.start == entry.start) rest) ≡ true
    by true later = refl
    by false later = later

map-same : (f : ℕ × ℕ → RankedBoard) (boards : List (ℕ × ℕ)) → ((board : ℕ × ℕ) → In board boards → (f board).board ≡ board)
    → map (λ (r : RankedBoard). r.board) (map f boards) ≡ boards
map-same f [] each = refl
map-same f (board ∷ rest) each =
    ap (λ (b : ℕ × ℕ). b ∷ map (λ (r : RankedBoard). r.board) (map f rest)) (each board (inl refl)) ∙ ap (λ bs. board ∷ bs) (map-same f rest (λ b m. each b (inr m)))

-- ---- boards that are put into a report

module _ (sheet : Sheet) (boards : List (ℕ × ℕ)) (own : HasOwnStarts sheet) (can : CanBePaired boards sheet) where
  abbrev put : Sheet
  put = with_round boards sheet

  abbrev last : ℕ
  last = rounds_played sheet

  abbrev round : ℕ
  round = last + 1

  back_one : last + 1 - 1 ≡ last
  back_one = omega arith

  cell_is : (start : ℕ) → cell_in put start round ≡ get_or (cells_of put.players start) last Blank
  cell_is start = ap (λ n. get_or (cells_of put.players start) n Blank) back_one

  named_known : (n : ℕ) → list_any (nat_eq n) (named_by boards) ≡ true → known sheet n ≡ true
  named_known n named = all_in (λ k. known sheet k ≡ true) (named_by boards) n (recursion_from_All (λ k. known sheet k ≡ true) (named_by boards) can.players) named

  known_more : (n : ℕ) → known sheet n ≡ true → 0 < n
  known_more n is_known = first-above sheet.players n own.within is_known

  white_known : (board : ℕ × ℕ) → In board boards → known sheet board.0 ≡ true
  white_known board member = named_known board.0 (white_named boards board member)

  black_known : (board : ℕ × ℕ) → In board boards → (board.1 == 0) ≡ false → known sheet board.1 ≡ true
  black_known board member some = named_known board.1 (black_named boards board member some)

  given_cell : (start : ℕ) (cell : Cell) → known sheet start ≡ true → cell_by boards start ≡ Some cell → cell_in put start round ≡ cell
  given_cell start cell is_known e = cell_is start ∙ named-cells sheet.bye boards last sheet.players start cell is_known e

  other_cell : (start : ℕ) → cell_by boards start ≡ None → is_paired (cell_in put start round) ≡ false
  other_cell start e =
      ap is_paired (cell_is start ∙ ap (λ cells. get_or cells last Blank) (other-cells sheet.bye boards last sheet.players start e))
      ∙ not_paired last (cells_of sheet.players start) (last-one sheet.players start)

  white_cell : (board : ℕ × ℕ) → In board boards → cell_in put board.0 round ≡ cond (board.1 == 0) (Bye Allocated) (Unfinished board.1 White)
  white_cell board member =
      given_cell board.0 (cond (board.1 == 0) (Bye Allocated) (Unfinished board.1 White)) (white_known board member)
      (white_by boards board member can.once (known_more board.0 (white_known board member)))

  black_cell : (board : ℕ × ℕ) → In board boards → (board.1 == 0) ≡ false → cell_in put board.1 round ≡ Unfinished board.0 Black
  black_cell board member some =
      given_cell board.1 (Unfinished board.0 Black) (black_known board member some) (black_by boards board member can.once (known_more board.1 (black_known board member some)))

  abbrev above : ℕ → ℕ → Bool
  above = ranks_above put round

  apart : (board : ℕ × ℕ) → In board boards → (board.1 == 0) ≡ false → board.0 ≡ board.1 → ⊥
  apart board member some same =
      let white : cell_in put board.0 round ≡ Unfinished board.1 White = white_cell board member ∙ ap (λ t. cond t (Bye Allocated) (Unfinished board.1 White)) some in
      let black : cell_in put board.0 round ≡ Unfinished board.0 Black = ap (λ n. cell_in put n round) same ∙ black_cell board member some in
      cc

  other_above : (board : ℕ × ℕ) → In board boards → (board.1 == 0) ≡ false → above board.1 board.0 ≡ not (above board.0 board.1)
  other_above board member some = above_other (score_before put round) board.0 board.1 (apart board member some)

  white_at : (board : ℕ × ℕ) (t : Bool) → In board boards → (board.1 == 0) ≡ t
      → board_at put round board.0 ≡ cond t (Some (board_of_bye put round board.0)) (cond (above board.0 board.1) (Some (board_of_two put round board.0 board.1)) None)
  white_at board true member e = ap (board_by put round board.0) (white_cell board member ∙ ap (λ t. cond t (Bye Allocated) (Unfinished board.1 White)) e)
  white_at board false member e = ap (board_by put round board.0) (white_cell board member ∙ ap (λ t. cond t (Bye Allocated) (Unfinished board.1 White)) e)

  black_at : (board : ℕ × ℕ) → In board boards → (board.1 == 0) ≡ false
      → board_at put round board.1 ≡ cond (not (above board.0 board.1)) (Some (board_of_two put round board.1 board.0)) None
  black_at board member some =
      ap (board_by put round board.1) (black_cell board member some)
      ∙ ap (λ t. cond t (Some (board_of_two put round board.1 board.0)) None) (other_above board member some)

  -- each board is made at one of its players
  rank_made : (board : ℕ × ℕ) → In board boards → (start : ℕ) × (known sheet start ≡ true) × (board_at put round start ≡ Some (rank put round board))
  rank_made board member = by (board.1 == 0) refl (above board.0 board.1) refl
    where
      by : (t : Bool) → (board.1 == 0) ≡ t → (u : Bool) → above board.0 board.1 ≡ u
          → (start : ℕ) × (known sheet start ≡ true)
          × (board_at put round start ≡ Some (cond t (board_of_bye put round board.0) (cond u (board_of_two put round board.0 board.1) (board_of_two put round board.1 board.0))))
      by true e u is = (board.0, white_known board member, white_at board true member e)
      by false e true is = (
        board.0,
        white_known board member,
        white_at board false member e ∙ ap (λ u. cond u (Some (board_of_two put round board.0 board.1)) None) is,
      )
      by false e false is = (
        board.1,
        black_known board member e,
        black_at board member e ∙ ap (λ u. cond (not u) (Some (board_of_two put round board.1 board.0)) None) is,
      )

  -- what is made at white, or at black, is the board
  made_white : (board : ℕ × ℕ) (r : RankedBoard) → In board boards → board_at put round board.0 ≡ Some r → rank put round board ≡ r
  made_white board r member made = by (board.1 == 0) refl (above board.0 board.1) refl
    where
      by : (t : Bool) → (board.1 == 0) ≡ t → (u : Bool) → above board.0 board.1 ≡ u
          → cond t (board_of_bye put round board.0) (cond u (board_of_two put round board.0 board.1) (board_of_two put round board.1 board.0)) ≡ r
      by true e u is = one_is (board_of_bye put round board.0) r (sym (white_at board true member e) ∙ made)
      by false e true is =
          one_is (board_of_two put round board.0 board.1) r
          (sym (white_at board false member e ∙ ap (λ u. cond u (Some (board_of_two put round board.0 board.1)) None) is) ∙ made)
      by false e false is =
          absurd (none_is r (sym (white_at board false member e ∙ ap (λ u. cond u (Some (board_of_two put round board.0 board.1)) None) is) ∙ made))

  made_black : (board : ℕ × ℕ) (r : RankedBoard) → In board boards → 0 < board.1 → board_at put round board.1 ≡ Some r → rank put round board ≡ r
  made_black board r member more made = by (board.1 == 0) refl (above board.0 board.1) refl
    where
      by : (t : Bool) → (board.1 == 0) ≡ t → (u : Bool) → above board.0 board.1 ≡ u
          → cond t (board_of_bye put round board.0) (cond u (board_of_two put round board.0 board.1) (board_of_two put round board.1 board.0)) ≡ r
      by true e u is = let none : board.1 ≡ 0 = eqb-true board.1 0 e in absurd (omega (arith, none, more))
      by false e true is =
          absurd (none_is r (sym (black_at board member e ∙ ap (λ u. cond (not u) (Some (board_of_two put round board.1 board.0)) None) is) ∙ made))
      by false e false is =
          one_is (board_of_two put round board.1 board.0) r
          (sym (black_at board member e ∙ ap (λ u. cond (not u) (Some (board_of_two put round board.1 board.0)) None) is) ∙ made)

  -- the board of what its place goes by
  rank_board : (board : ℕ × ℕ) → In board boards → (rank put round board).board ≡ board
  unfolding board_of_bye board_of_two
  rank_board board member = by (board.1 == 0) refl (above board.0 board.1)
    where
      white : (board.1 == 0) ≡ false → colour_in put round board.0 ≡ Some White
      white e = ap colour_in_cell (white_cell board member ∙ ap (λ t. cond t (Bye Allocated) (Unfinished board.1 White)) e)

      black : (board.1 == 0) ≡ false → colour_in put round board.1 ≡ Some Black
      black e = ap colour_in_cell (black_cell board member e)

      white_colour : (board.1 == 0) ≡ false → colour_by (colour_in put round board.0) (colour_in put round board.1) ≡ White
      white_colour e = ap (λ c. colour_by c (colour_in put round board.1)) (white e) ∙ ap (λ c. colour_by (Some White) c) (black e)

      black_colour : (board.1 == 0) ≡ false → colour_by (colour_in put round board.1) (colour_in put round board.0) ≡ Black
      black_colour e = ap (λ c. colour_by c (colour_in put round board.0)) (black e) ∙ ap (λ c. colour_by (Some Black) c) (white e)

      by : (t : Bool) → (board.1 == 0) ≡ t → (u : Bool)
          → (cond t (board_of_bye put round board.0) (cond u (board_of_two put round board.0 board.1) (board_of_two put round board.1 board.0))).board ≡ board
      by true e u = ap (λ n. (board.0, n)) (sym (eqb-true board.1 0 e))
      by false e true = ap (with_colour board.0 board.1) (white_colour e)
      by false e false = ap (with_colour board.1 board.0) (black_colour e)

  abbrev made : Entry → Option RankedBoard
  made entry = board_at put round entry.start

  -- the boards of the round are those that were put
  into : (r : RankedBoard) → In r (map (rank put round) boards) → In r (boards_unordered put round)
  into r member =
      let found = in-map (rank put round) boards r member in
      let at' = rank_made found.0 found.1 in
      let entry = in-starts sheet.players at'.0 at'.1 in
      let player = map-in (entry_with sheet.bye boards last) sheet.players entry.0 entry.1 in
      let is : made (entry_with sheet.bye boards last entry.0) ≡ Some r = ap (board_at put round) entry.2 ∙ (at'.2 ∙ ap Some found.2) in
      made-in made put.players (entry_with sheet.bye boards last entry.0) r player is

  at_board : (board : ℕ × ℕ) (start : ℕ) (cell : Cell) (r : RankedBoard) → In board boards → cell_on board start ≡ Some cell → 0 < start → board_at put round start ≡ Some r
      → In r (map (rank put round) boards)
  at_board board start cell r member on more at' = side (which_side board start cell on)
    where
      here : rank put round board ≡ r → In r (map (rank put round) boards)
      here e = subst (λ x. In x (map (rank put round) boards)) e (map-in (rank put round) boards board member)

      side : (board.0 ≡ start) ⊎ (board.1 ≡ start) → In r (map (rank put round) boards)
      side (inl w) = here (made_white board r member (ap (board_at put round) w ∙ at'))
      side (inr b) = here (made_black board r member (subst (λ n. 0 < n) (sym b) more) (ap (board_at put round) b ∙ at'))

  back_at : (start : ℕ) (r : RankedBoard) (o : Option Cell) → cell_by boards start ≡ o → known sheet start ≡ true → board_at put round start ≡ Some r
      → In r (map (rank put round) boards)
  back_at start r None e is_known at' = absurd (none_is r (sym (none-by put round start (cell_in put start round) (other_cell start e)) ∙ at'))
  back_at start r (Some cell) e is_known at' =
      let one = by_one boards start cell e in at_board one.0 start cell r one.1 one.2 (known_more start is_known) at'

  back : (r : RankedBoard) → In r (boards_unordered put round) → In r (map (rank put round) boards)
  back r member =
      let found = in-made made put.players r member in
      let origin = in-map (entry_with sheet.bye boards last) sheet.players found.0 found.1 in
      let start : ℕ = found.0.start in
      let same : origin.0.start ≡ start = ap (λ (e : Entry). e.start) origin.2 in
      let is_known : known sheet start ≡ true = subst (λ n. known sheet n ≡ true) same (in-any sheet.players origin.0 origin.1) in
      back_at start r (cell_by boards start) refl is_known found.2

  starts_apart : IsDistinct nat_eq (starts_of put.players)
  starts_apart =
      subst (IsDistinct nat_eq) (sym (starts-with (entry_with sheet.bye boards last) (λ entry. refl) sheet.players)) own.different

  abbrev in_order : List RankedBoard
  in_order = ranked_by board_goes_before (boards_unordered put round)

  boards_apart : IsDistinct same_start in_order
  boards_apart =
      IsDistinct-IsPermutation same_start flips (boards_unordered put round) in_order (ranked_moves board_goes_before (boards_unordered put round))
      (made_distinct made (λ entry r e. start-by put round entry.start (cell_in put entry.start round) r e) put.players starts_apart)

  is_order : IsStrictWeakOrder board_goes_before
  is_order = ranks_by place_total (λ (r : RankedBoard). r)

  strict : IsStrict board_goes_before in_order
  strict = strict_from board_goes_before same_start one_before in_order (ranked_ranks board_goes_before is_order (boards_unordered put round)) boards_apart

  -- boards that stand in their order
  pub round_boards : IsStrict board_goes_before (map (rank put round) boards) → boards_of put round ≡ boards
  round_boards given =
      let same : in_order ≡ map (rank put round) boards =
      same_list board_goes_before is_order in_order (map (rank put round) boards) strict given (λ r m. back r (in-ranked board_goes_before (boards_unordered put round) r m))
      (λ r m. ranked-in board_goes_before (boards_unordered put round) r (into r m)) in
      ap (map (λ (r : RankedBoard). r.board)) same ∙ map-same (rank put round) boards rank_board
