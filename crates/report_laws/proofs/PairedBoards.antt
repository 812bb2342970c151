-- The boards by which a round was paired are the boards of that round, once they are put into the report: both orders agree.
--
-- Seats stand by rank, and their scores are those before the round. So of two players on a board the one with the smaller seat ranks
-- higher, what a board's place goes by is the same in both orders, and whoever has the bye stands last.
use Rattle.std.proofs.Common.{◌≡◌, ◌⊎◌, inl, inr, ℕ, zero, suc, ◌+◌, ◌-◌, ◌<◌, ◌≤◌, Bool, true, false, cond, List, [], ◌∷◌, ◌++◌, refl, sym, ap, ◌∙◌, subst, map, take, length, get_or, Option, Some, None, Result, Ok, Err, arith, zero-add}
use Rattle.std.specs.Prelude.{◌==◌, ◌||◌, ◌&&◌, not, nat_eq, nat_lt, min, sum_by, All, IfSome}
use Rattle.std.specs.List.{AllByRecursion, IsDistinct, list_any}
use Rattle.std.specs.Ordering.{nat_cmp, is_lt, ordering_then}
use Rattle.std.specs.declared.cmp.Ordering.TheVariants.{Less, Equal, Greater}
use Rattle.std.proofs.lemmas.Bool.{cases_lt, lt-ltb, le-ltb, ne_eqb, true≢false}
use Rattle.std.proofs.lemmas.Bool.Decides.{Decides-eqb, nat_tests}
use Rattle.std.proofs.lemmas.List.{get_or-map, length-map}
use Rattle.std.proofs.lemmas.List.Elements.{All-from_recursion, All-get_or}
use Rattle.std.proofs.lemmas.List.Sorted.{All-permutation}
use Rattle.std.proofs.lemmas.List.Sums.{sum_by-cons}
use Rattle.std.proofs.lemmas.Map.Keys.{IsDistinct-head, IsDistinct-tail}
use Rattle.std.proofs.lemmas.Map.Made.{AllPairs-from_IsDistinct}
use Rattle.trf16_report.specs.declared.cell.Cell.{Cell}
use Rattle.trf16_report.specs.declared.cell.Cell.TheVariants.{Blank}
use Rattle.trf16_report.specs.declared.cell.Colour.{Colour}
use Rattle.trf16_report.specs.declared.cell.Colour.TheVariants.{White, Black}
use Rattle.trf16_report.specs.declared.limits.TheConstants.{MOST_ROUNDS}
use Rattle.trf16_report.specs.Outcomes.{◌>>=◌}
use Rattle.trf16_report.specs.Prelude.{CanBePaired, Entry, HasOwnStarts, Sheet, absent, cell_by, cells_of, cells_with, entry_with, half_points, named_by, points_upto, rounds_played, starts_of, with_cell, with_round}
use Rattle.trf16_writer.proofs.BoardLemmas.{eq-self, eq-sym}
use Rattle.trf16_laws.proofs.PairedRound.{named_black, named_head, named_tail}
use Rattle.trf16_report.proofs.RankLemmas.{ranked_moves}
use Rattle.dutch_player.specs.declared.fault.FieldFault.{FieldFault}
use Rattle.dutch_player.specs.Prelude.{Facts, SeatFacts, colour_of_higher, colours, initial_of, no_seat, seats_by_rank, seat_at, seats_of, start_ranks, total_for, with_colour}
use Rattle.dutch_player.specs.Facts.{facts_of, seat_of}
use Rattle.dutch_player.specs.Facts as fields
use Rattle.dutch_player.proofs.PresentLemmas.{field_of}
use Rattle.dutch_player.proofs.RankLemmas.{goes_behind, ranked_IsRanked}
use Rattle.dutch_bracket.specs.Prelude.{IsPair, score_at}
use Rattle.dutch_rounds.specs.Prelude.{AreInOrder, NoneBefore, Pairing, both_scores, boards, bye_of, higher, pairs_in_order, round}
use Rattle.dutch_rounds.specs.Boards.{board_of, goes_before as is_before, goes_before_by_sum}
use Rattle.dutch_rounds.proofs.BoardLemmas.{colours_pair, pairs_ordered}
use Rattle.dutch_rounds.proofs.BoardOrder.{boards_in_order}
use Rattle.dutch_rounds.proofs.NamedBoards.{pairs_of_seats}
use Rattle.dutch_rounds.proofs.NextRound.{can_be_next}
use Rattle.dutch_rounds.proofs.WholeRounds.{one_bye}
use Rattle.tables.specs.declared.board.RankedBoard.{RankedBoard}
use Rattle.tables.specs.Prelude.{boards_of, board_goes_before, ranks_above, score_before}
use Rattle.tables.specs.Boards.{board_of_bye, board_of_two}
use Rattle.report_laws.proofs.HostLemmas.{above_other}
use Rattle.report_laws.proofs.BoardOrders.{Ahead, IsStrict}
use Rattle.report_laws.proofs.PutBoards.{apart_from, both_apart, one_before, rank, rest_distinct, round_boards}

-- ---- scores before the round

take-none : (n : ℕ) → ◌≡◌ {A = List Cell} (take n []) []
take-none zero = refl
take-none (suc n) = refl

-- what is set behind the first rounds does not count in them
sum-with : (bye n : ℕ) (cell : Cell) (cells : List Cell) → sum_by (half_points bye) (take n (with_cell n cell cells)) ≡ sum_by (half_points bye) (take n cells)
sum-with bye zero cell [] = refl
sum-with bye zero cell (first ∷ rest) = refl
sum-with bye (suc n) cell [] =
    sum_by-cons (half_points bye) Blank (take n (with_cell n cell []))
    ∙ (zero-add (sum_by (half_points bye) (take n (with_cell n cell []))) ∙ (sum-with bye n cell [] ∙ ap (sum_by (half_points bye)) (take-none n)))
sum-with bye (suc n) cell (first ∷ rest) =
    sum_by-cons (half_points bye) first (take n (with_cell n cell rest))
    ∙ (ap (λ s. half_points bye first + s) (sum-with bye n cell rest) ∙ sym (sum_by-cons (half_points bye) first (take n rest)))

sum-put : (bye : ℕ) (boards : List (ℕ × ℕ)) (n : ℕ) (entries : List Entry) (start : ℕ)
    → sum_by (half_points bye) (take n (cells_of (map (entry_with bye boards n) entries) start)) ≡ sum_by (half_points bye) (take n (cells_of entries start))
sum-put bye boards n [] start = refl
sum-put bye boards n (entry ∷ entries) start = by (entry.start == start) (sum-put bye boards n entries start)
  where
    one : (o : Option Cell) → cell_by boards entry.start ≡ o → sum_by (half_points bye) (take n (cells_with boards n entry)) ≡ sum_by (half_points bye) (take n entry.cells)
    one None e = rw e refl
    one (Some cell) e = rw e (sum-with bye n cell entry.cells)

    by : (here : Bool) → sum_by (half_points bye) (take n (cells_of (map (entry_with bye boards n) entries) start)) ≡ sum_by (half_points bye) (take n (cells_of entries start))
        → sum_by (half_points bye) (take n (cond here (cells_with boards n entry) (cells_of (map (entry_with bye boards n) entries) start)))
        ≡ sum_by (half_points bye) (take n (cond here entry.cells (cells_of entries start)))
    by true later = one (cell_by boards entry.start) refl
    by false later = later

-- each player has the cells of their own line
own_behind : (first : Entry) (es some : List Entry) → AllByRecursion (λ y. nat_eq first.start y ≡ false) (starts_of some)
    → AllByRecursion (λ (e : Entry). cells_of es e.start ≡ e.cells) some → AllByRecursion (λ (e : Entry). cells_of (first ∷ es) e.start ≡ e.cells) some
own_behind first es [] other all = tt
own_behind first es (e ∷ some) other all = (rw other.0 all.0, own_behind first es some other.1 all.1)

own_cells : (es : List Entry) → IsDistinct nat_eq (starts_of es) → AllByRecursion (λ (e : Entry). cells_of es e.start ≡ e.cells) es
own_cells [] distinct = tt
own_cells (e ∷ es) distinct = (
  rw (eq-self e.start) refl,
  own_behind e es es (IsDistinct-head nat_eq e.start (starts_of es) distinct) (own_cells es (IsDistinct-tail nat_eq e.start (starts_of es) distinct)),
)

-- a seat's score is that of its player in the rounds that were paired
abbrev IsScored : Sheet → SeatFacts → Type 0
IsScored sheet seat = points_upto sheet seat.start (rounds_played sheet) ≡ seat.score

scored_at : (sheet : Sheet) (entry : Entry) (rest : List SeatFacts) (t : Bool) → cells_of sheet.players entry.start ≡ entry.cells → AllByRecursion (IsScored sheet) rest
    → AllByRecursion (IsScored sheet) (cond t rest (seat_of sheet entry ∷ rest))
unfolding seat_of
scored_at sheet entry rest true own all = all
scored_at sheet entry rest false own all = (ap (λ cells. sum_by (half_points sheet.bye) (take (rounds_played sheet) cells)) own, all)

scored_all : (sheet : Sheet) (entries : List Entry) → AllByRecursion (λ (e : Entry). cells_of sheet.players e.start ≡ e.cells) entries
    → AllByRecursion (IsScored sheet) (seats_of sheet entries)
scored_all sheet [] own = tt
scored_all sheet (entry ∷ rest) own = scored_at sheet entry (seats_of sheet rest) (absent sheet entry.start) own.0 (scored_all sheet rest own.1)

seats_are : (sheet : Sheet) (asked : Option ℕ) (initial : Option Colour) (facts : Facts) → facts_of sheet asked initial ≡ Ok facts → facts.seats ≡ seats_by_rank (seats_of sheet sheet.players)
unfolding facts_of
seats_are sheet asked initial facts e = by (total_for sheet asked) e
  where
    field : ℕ → Facts
    field total = record { seats = seats_by_rank (seats_of sheet sheet.players); round = rounds_played sheet + 1; total = total; initial = initial_of sheet initial }

    same_ok : (x y : Facts) → ◌≡◌ {A = Result Facts FieldFault} (Ok x) (Ok y) → x ≡ y
    same_ok x y e = cc

    by : (r : Result ℕ FieldFault) → (r >>= λ total. Ok (record { seats = seats_by_rank (seats_of sheet sheet.players); round = rounds_played sheet + 1; total = total; initial = initial_of sheet initial })) ≡ Ok facts
        → facts.seats ≡ seats_by_rank (seats_of sheet sheet.players)
    by (Ok total) e =
        ap (λ (f : Facts). f.seats)
        (sym (same_ok (record { seats = seats_by_rank (seats_of sheet sheet.players); round = rounds_played sheet + 1; total = total; initial = initial_of sheet initial }) facts e))
    by (Err fault) e = absurd (cc)

-- ---- the two orders

test-less : (a b : ℕ) → is_lt (nat_cmp a b) ≡ nat_lt a b
test-less a b = by (nat_lt a b) (a == b)
  where
    by : (less same : Bool) → is_lt (cond less Less (cond same Equal Greater)) ≡ less
    by true same = refl
    by false true = refl
    by false false = refl

-- by two numbers that fall and one that rises
agree : (a b c d e f : ℕ)
    → is_lt (ordering_then (nat_cmp d a) (ordering_then (nat_cmp e b) (nat_cmp c f))) ≡ (nat_lt d a || ((a == d) && (nat_lt e b || ((b == e) && nat_lt c f))))
agree a b c d e f =
    by (nat_lt d a) (d == a) (nat_lt e b) (e == b)
    ∙ (ap (λ t. nat_lt d a || (t && (nat_lt e b || ((e == b) && is_lt (nat_cmp c f))))) (eq-sym d a)
    ∙ (ap (λ t. nat_lt d a || ((a == d) && (nat_lt e b || (t && is_lt (nat_cmp c f))))) (eq-sym e b)
    ∙ ap (λ t. nat_lt d a || ((a == d) && (nat_lt e b || ((b == e) && t)))) (test-less c f)))
  where
    by : (l s l' s' : Bool)
        → is_lt (ordering_then (cond l Less (cond s Equal Greater)) (ordering_then (cond l' Less (cond s' Equal Greater)) (nat_cmp c f)))
        ≡ (l || (s && (l' || (s' && is_lt (nat_cmp c f)))))
    by true s l' s' = refl
    by false false l' s' = refl
    by false true true s' = refl
    by false true false false = refl
    by false true false true = refl

-- who goes before another by score and start rank, if the other does not go before them
above_from : (s t a b : ℕ) → (nat_lt s t || ((t == s) && nat_lt b a)) ≡ false → (a ≡ b → ⊥) → (nat_lt t s || ((s == t) && nat_lt a b)) ≡ true
above_from s t a b behind other = grind (arith, nat_tests)

-- what a board's place goes by
record Goes (r : RankedBoard) (score both start : ℕ) : Type 0 where
  pair : r.has_bye ≡ false
  by_score : r.score ≡ score
  by_both : r.both_scores ≡ both
  by_start : r.start ≡ start

-- two boards of two players each
before-pair : (p q : RankedBoard) (a b c d e f : ℕ) → Goes p a b c → Goes q d e f → board_goes_before p q ≡ (nat_lt d a || ((a == d) && (nat_lt e b || ((b == e) && nat_lt c f))))
before-pair p q a b c d e f g h =
    rw (g.pair, h.pair, g.by_score, h.by_score, g.by_both, h.by_both, g.by_start, h.by_start) (agree a b c d e f)

-- a bye goes behind
before-bye : (p q : RankedBoard) → p.has_bye ≡ false → q.has_bye ≡ true → board_goes_before p q ≡ true
before-bye p q e e' = rw (e, e') refl

-- ---- the boards of a round that is paired

module _ (sheet : Sheet) (facts : Facts) (pairing : Pairing) (own : HasOwnStarts sheet) (field_seats : facts.seats ≡ seats_by_rank (seats_of sheet sheet.players))
    (once : IsDistinct nat_eq (start_ranks facts)) (from_one : All (λ start. 0 < start) (start_ranks facts)) where
  abbrev all_boards : List (ℕ × ℕ)
  all_boards = boards facts pairing

  abbrev put : Sheet
  put = with_round all_boards sheet

  abbrev next : ℕ
  next = rounds_played sheet + 1

  abbrev start_of : ℕ → ℕ
  start_of seat = (seat_at facts seat).start

  starts_counted : length (start_ranks facts) ≡ length facts.seats
  starts_counted = length-map facts.seats (λ (seat : SeatFacts). seat.start)

  start_is : (i : ℕ) → i < length facts.seats → start_of i ≡ get_or (start_ranks facts) i 0
  start_is i lt = sym (get_or-map (λ (seat : SeatFacts). seat.start) facts.seats i no_seat 0 lt)

  start_counts : (i : ℕ) → i < length facts.seats → 0 < start_of i
  start_counts i lt =
      subst (λ n. 0 < n) (sym (start_is i lt))
      (All-get_or (λ start. 0 < start) (start_ranks facts) i 0 (let h : i < length (start_ranks facts) = omega (arith, lt, starts_counted) in h) from_one)

  starts_differ : (i j : ℕ) → i < j → j < length facts.seats → start_of i ≡ start_of j → ⊥
  starts_differ i j lt within same =
      let inside : i < length facts.seats = omega (arith, lt, within) in
      let there : j < length (start_ranks facts) = omega (arith, within, starts_counted) in
      AllPairs-from_IsDistinct Decides-eqb (start_ranks facts) once i j 0 lt there (sym (start_is i inside) ∙ (same ∙ start_is j within))

  all_scored : All (IsScored sheet) facts.seats
  all_scored =
      let seats : List SeatFacts = seats_of sheet sheet.players in
      subst (λ (all : List SeatFacts). All (IsScored sheet) all) (sym field_seats)
      (All-permutation (IsScored sheet) seats (seats_by_rank seats) (ranked_moves fields.goes_before seats)
      (All-from_recursion (IsScored sheet) seats (scored_all sheet sheet.players (own_cells sheet.players own.different))))

  -- scores before the round are those of the seats
  score_is : (i : ℕ) → i < length facts.seats → score_before put next (start_of i) ≡ score_at facts i
  score_is i lt =
      ap (λ n. points_upto put (start_of i) n) (let e : rounds_played sheet + 1 - 1 ≡ rounds_played sheet = omega arith in e)
      ∙ (sum-put sheet.bye all_boards (rounds_played sheet) sheet.players (start_of i) ∙ All-get_or (IsScored sheet) facts.seats i no_seat lt all_scored)

  -- the smaller of two seats ranks higher
  above_is : (i j : ℕ) → i < j → j < length facts.seats → ranks_above put next (start_of i) (start_of j) ≡ true
  above_is i j lt within =
      let inside : i < length facts.seats = omega (arith, lt, within) in
      let behind = goes_behind facts.seats i j lt within (ranked_IsRanked (seats_of sheet sheet.players) facts.seats field_seats) in
      rw (score_is i inside, score_is j within) (above_from (score_at facts i) (score_at facts j) (start_of i) (start_of j) behind (starts_differ i j lt within))

  -- ---- what the place of a board goes by

  two_goes : (i j : ℕ) → i < length facts.seats → j < length facts.seats
      → Goes (board_of_two put next (start_of i) (start_of j)) (score_at facts i) (score_at facts i + score_at facts j) (start_of i)
  unfolding board_of_two
  two_goes i j lt lt' = record {
    pair = refl;
    by_score = score_is i lt;
    by_both = ap (λ s. s + score_before put next (start_of j)) (score_is i lt) ∙ ap (λ s. score_at facts i + s) (score_is j lt');
    by_start = refl;
  }

  some_black : (i : ℕ) → i < length facts.seats → (start_of i == 0) ≡ false
  some_black i lt = let more : 0 < start_of i = start_counts i lt in ne_eqb (start_of i) 0 (λ e. omega (arith, e, more))

  -- whichever colour the higher ranked has
  with_goes : (i j : ℕ) (colour : Colour) → i < j → j < length facts.seats
      → rank put next (start_of (with_colour i j colour).0, start_of (with_colour i j colour).1) ≡ board_of_two put next (start_of i) (start_of j)
  with_goes i j White lt within = rw (some_black j within, above_is i j lt within) refl
  with_goes i j Black lt within =
      let inside : i < length facts.seats = omega (arith, lt, within) in
      let other : ranks_above put next (start_of j) (start_of i) ≡ false =
      above_other (score_before put next) (start_of i) (start_of j) (starts_differ i j lt within) ∙ ap not (above_is i j lt within) in
      rw (some_black i inside, other) refl

  board_goes : (p : ℕ × ℕ) → IsPair facts p → (p.0 ≡ p.1 → ⊥) → Goes (rank put next (board_of facts p)) (score_at facts (higher facts p)) (both_scores facts p) (start_of (higher facts p))
  unfolding board_of
  board_goes p seats differ = elim (cases_lt p.0 p.1) [
    | inl lt ↦
        let least : min p.0 p.1 ≡ p.0 = omega (arith, lt) in
        let seen : colours facts p.0 p.1 ≡ with_colour p.0 p.1 (colour_of_higher facts p.0 p.1) =
        ap (λ t. cond t (with_colour p.0 p.1 (colour_of_higher facts p.0 p.1)) (with_colour p.1 p.0 (colour_of_higher facts p.1 p.0))) (lt-ltb p.0 p.1 lt) in
        let same : rank put next (start_of (colours facts p.0 p.1).0, start_of (colours facts p.0 p.1).1) ≡ board_of_two put next (start_of p.0) (start_of p.1) =
        ap (λ (both : ℕ × ℕ). rank put next (start_of both.0, start_of both.1)) seen ∙ with_goes p.0 p.1 (colour_of_higher facts p.0 p.1) lt seats.1 in
        subst (λ n. Goes (rank put next (start_of (colours facts p.0 p.1).0, start_of (colours facts p.0 p.1).1)) (score_at facts n) (both_scores facts p) (start_of n)) (sym least)
        (subst (λ r. Goes r (score_at facts p.0) (both_scores facts p) (start_of p.0)) (sym same) (two_goes p.0 p.1 seats.0 seats.1))
    | inr le ↦
        let lt : p.1 < p.0 = less p.0 p.1 le differ in
        let least : min p.0 p.1 ≡ p.1 = omega (arith, lt) in
        let seen : colours facts p.0 p.1 ≡ with_colour p.1 p.0 (colour_of_higher facts p.1 p.0) =
        ap (λ t. cond t (with_colour p.0 p.1 (colour_of_higher facts p.0 p.1)) (with_colour p.1 p.0 (colour_of_higher facts p.1 p.0))) (le-ltb p.0 p.1 le) in
        let same : rank put next (start_of (colours facts p.0 p.1).0, start_of (colours facts p.0 p.1).1) ≡ board_of_two put next (start_of p.1) (start_of p.0) =
        ap (λ (both : ℕ × ℕ). rank put next (start_of both.0, start_of both.1)) seen ∙ with_goes p.1 p.0 (colour_of_higher facts p.1 p.0) lt seats.0 in
        let swapped : score_at facts p.1 + score_at facts p.0 ≡ both_scores facts p = omega arith in
        subst (λ n. Goes (rank put next (start_of (colours facts p.0 p.1).0, start_of (colours facts p.0 p.1).1)) (score_at facts n) (both_scores facts p) (start_of n)) (sym least)
        (subst (λ r. Goes r (score_at facts p.1) (both_scores facts p) (start_of p.1)) (sym same)
        (subst (λ s. Goes (board_of_two put next (start_of p.1) (start_of p.0)) (score_at facts p.1) s (start_of p.1)) swapped (two_goes p.1 p.0 seats.1 seats.0)))
  ]
    where
      less : (a b : ℕ) → b ≤ a → (a ≡ b → ⊥) → b < a
      less a b le differ = grind arith

  bye_goes : (seat : ℕ) → (rank put next (bye_of facts seat)).has_bye ≡ true
  unfolding board_of_bye
  bye_goes seat = refl

  -- both orders agree
  orders_agree : (p q : ℕ × ℕ) → IsPair facts p → IsPair facts q → (p.0 ≡ p.1 → ⊥) → (q.0 ≡ q.1 → ⊥)
      → board_goes_before (rank put next (board_of facts p)) (rank put next (board_of facts q)) ≡ is_before facts p q
  unfolding is_before goes_before_by_sum
  orders_agree p q seats seats' differ differ' =
      before-pair (rank put next (board_of facts p)) (rank put next (board_of facts q)) (score_at facts (higher facts p)) (both_scores facts p) (start_of (higher facts p))
      (score_at facts (higher facts q)) (both_scores facts q) (start_of (higher facts q)) (board_goes p seats differ) (board_goes q seats' differ')

  -- ---- whom a board has

  higher_on : (p : ℕ × ℕ) → ((board_of facts p).0 ≡ start_of (higher facts p)) ⊎ ((board_of facts p).1 ≡ start_of (higher facts p))
  unfolding board_of
  higher_on p = elim (cases_lt p.0 p.1) [
    | inl lt ↦
        let least : min p.0 p.1 ≡ p.0 = omega (arith, lt) in
        subst (λ n. (start_of (colours facts p.0 p.1).0 ≡ start_of n) ⊎ (start_of (colours facts p.0 p.1).1 ≡ start_of n)) (sym least)
        (subst (λ (t : Bool). let both = cond t (with_colour p.0 p.1 (colour_of_higher facts p.0 p.1)) (with_colour p.1 p.0 (colour_of_higher facts p.1 p.0)) in
        (start_of both.0 ≡ start_of p.0) ⊎ (start_of both.1 ≡ start_of p.0)) (sym (lt-ltb p.0 p.1 lt)) (by p.0 p.1 (colour_of_higher facts p.0 p.1)))
    | inr le ↦
        let least : min p.0 p.1 ≡ p.1 = omega (arith, le) in
        subst (λ n. (start_of (colours facts p.0 p.1).0 ≡ start_of n) ⊎ (start_of (colours facts p.0 p.1).1 ≡ start_of n)) (sym least)
        (subst (λ (t : Bool). let both = cond t (with_colour p.0 p.1 (colour_of_higher facts p.0 p.1)) (with_colour p.1 p.0 (colour_of_higher facts p.1 p.0)) in
        (start_of both.0 ≡ start_of p.1) ⊎ (start_of both.1 ≡ start_of p.1)) (sym (le-ltb p.0 p.1 le)) (by p.1 p.0 (colour_of_higher facts p.1 p.0)))
  ]
    where
      by : (i j : ℕ) (colour : Colour) → (start_of (with_colour i j colour).0 ≡ start_of i) ⊎ (start_of (with_colour i j colour).1 ≡ start_of i)
      by i j White = inl refl
      by i j Black = inr refl

  black_some : (p : ℕ × ℕ) → IsPair facts p → ((board_of facts p).1 == 0) ≡ false
  unfolding board_of
  black_some p seats = some_black (colours facts p.0 p.1).1 (colours_pair facts p.0 p.1 seats).1

  -- the seats of a board with two start ranks are two
  two_seats : (p : ℕ × ℕ) → ((board_of facts p).0 == (board_of facts p).1) ≡ false → p.0 ≡ p.1 → ⊥
  unfolding board_of
  two_seats p apart same = by (nat_lt p.0 p.1) apart
    where
      one : (a b : ℕ) (colour : Colour) → a ≡ b → (start_of (with_colour a b colour).0 == start_of (with_colour a b colour).1) ≡ false → ⊥
      one a b White e h = true≢false (sym (eq-self (start_of a)) ∙ (ap (λ n. start_of a == start_of n) e ∙ h))
      one a b Black e h = true≢false (sym (eq-self (start_of b)) ∙ (ap (λ n. start_of b == start_of n) (sym e) ∙ h))

      by : (t : Bool)
          → (start_of (cond t (with_colour p.0 p.1 (colour_of_higher facts p.0 p.1)) (with_colour p.1 p.0 (colour_of_higher facts p.1 p.0))).0
          == start_of (cond t (with_colour p.0 p.1 (colour_of_higher facts p.0 p.1)) (with_colour p.1 p.0 (colour_of_higher facts p.1 p.0))).1) ≡ false → ⊥
      by true h = one p.0 p.1 (colour_of_higher facts p.0 p.1) same h
      by false h = one p.1 p.0 (colour_of_higher facts p.1 p.0) (sym same) h

  -- the seat of the higher ranked is one
  within : (p : ℕ × ℕ) → IsPair facts p → higher facts p < length facts.seats
  within p seats = let here : p.0 < length facts.seats = seats.0 in omega arith

  -- the higher ranked player of a board is named by it
  on_board : (p : ℕ × ℕ) (rest : List (ℕ × ℕ)) → IsPair facts p → ((board_of facts p).0 ≡ start_of (higher facts p)) ⊎ ((board_of facts p).1 ≡ start_of (higher facts p))
      → list_any (nat_eq (start_of (higher facts p))) (named_by (board_of facts p ∷ rest)) ≡ true
  on_board p rest seats (inl e) = subst (λ n. list_any (nat_eq n) (named_by (board_of facts p ∷ rest)) ≡ true) e (named_head (board_of facts p) rest)
  on_board p rest seats (inr e) = subst (λ n. list_any (nat_eq n) (named_by (board_of facts p ∷ rest)) ≡ true) e (named_black (board_of facts p) rest (black_some p seats))

  -- and not by a later one
  other_side : (p : ℕ × ℕ) (rest : List (ℕ × ℕ)) (n : ℕ) → IsDistinct nat_eq (named_by (board_of facts p ∷ rest)) → 0 < n → list_any (nat_eq n) (named_by rest) ≡ true
      → start_of (higher facts p) ≡ n → ((board_of facts p).0 ≡ start_of (higher facts p)) ⊎ ((board_of facts p).1 ≡ start_of (higher facts p)) → ⊥
  other_side p rest n distinct more named same (inl e) =
      true≢false (sym (eq-self n) ∙ (ap (λ k. k == n) (sym (e ∙ same)) ∙ (apart_from (board_of facts p) rest n distinct more named).0))
  other_side p rest n distinct more named same (inr e) =
      true≢false (sym (eq-self n) ∙ (ap (λ k. k == n) (sym (e ∙ same)) ∙ (apart_from (board_of facts p) rest n distinct more named).1))

  -- ---- the order

  abbrev byes : List (ℕ × ℕ)
  byes = map (bye_of facts) pairing.bye

  ahead_byes : (r : RankedBoard) → r.has_bye ≡ false → (bye : List ℕ) → Ahead board_goes_before r (map (rank put next) (map (bye_of facts) bye))
  ahead_byes r pair [] = tt
  ahead_byes r pair (seat ∷ bye) = (before-bye r (rank put next (bye_of facts seat)) pair (bye_goes seat), ahead_byes r pair bye)

  -- a board stands before all behind it
  ahead_pairs : (p : ℕ × ℕ) (rest : List (ℕ × ℕ)) → IsPair facts p → (p.0 ≡ p.1 → ⊥) → AllByRecursion (IsPair facts) rest → NoneBefore facts p rest
      → IsDistinct nat_eq (named_by (map (board_of facts) rest ++ byes))
      → ((n : ℕ) → 0 < n → list_any (nat_eq n) (named_by (map (board_of facts) rest ++ byes)) ≡ true → start_of (higher facts p) ≡ n → ⊥)
      → Ahead board_goes_before (rank put next (board_of facts p)) (map (rank put next) (map (board_of facts) rest ++ byes))
  ahead_pairs p [] seats differ all none distinct others = ahead_byes (rank put next (board_of facts p)) (board_goes p seats differ).pair pairing.bye
  ahead_pairs p (q ∷ rest) seats differ all none distinct others =
      let behind = map (board_of facts) rest ++ byes in
      let differ' = two_seats q (both_apart (board_of facts q) behind distinct (black_some q all.0)) in
      let not_before = orders_agree q p all.0 seats differ' differ ∙ none.0 in
      let p_start : (rank put next (board_of facts p)).start ≡ start_of (higher facts p) = (board_goes p seats differ).by_start in
      let q_start : (rank put next (board_of facts q)).start ≡ start_of (higher facts q) = (board_goes q all.0 differ').by_start in
      let named : list_any (nat_eq (start_of (higher facts q))) (named_by (board_of facts q ∷ behind)) ≡ true = on_board q behind all.0 (higher_on q) in
      let more : 0 < start_of (higher facts q) = start_counts (higher facts q) (within q all.0) in
      let apart : ((rank put next (board_of facts p)).start == (rank put next (board_of facts q)).start) ≡ false =
      ap (λ n. n == (rank put next (board_of facts q)).start) p_start
      ∙ (ap (λ n. start_of (higher facts p) == n) q_start ∙ ne_eqb (start_of (higher facts p)) (start_of (higher facts q)) (others (start_of (higher facts q)) more named)) in (
        one_before (rank put next (board_of facts p)) (rank put next (board_of facts q)) not_before apart,
        ahead_pairs p rest seats differ all.1 none.1 (rest_distinct (board_of facts q) behind distinct) (λ n n_more later. others n n_more (named_tail (board_of facts q) behind n later)),
      )

  strict_pairs : (pairs : List (ℕ × ℕ)) → AllByRecursion (IsPair facts) pairs → AreInOrder facts pairs → length pairing.bye ≤ 1
      → IsDistinct nat_eq (named_by (map (board_of facts) pairs ++ byes)) → IsStrict board_goes_before (map (rank put next) (map (board_of facts) pairs ++ byes))
  strict_pairs [] all order few distinct = by pairing.bye few
    where
      by : (bye : List ℕ) → length bye ≤ 1 → IsStrict board_goes_before (map (rank put next) (map (bye_of facts) bye))
      by [] few = tt
      by (seat ∷ []) few = (tt, tt)
      by (seat ∷ other ∷ more) few = absurd (omega (arith, few))
  strict_pairs (p ∷ rest) all order few distinct =
      let behind = map (board_of facts) rest ++ byes in
      let differ = two_seats p (both_apart (board_of facts p) behind distinct (black_some p all.0)) in
      let later = rest_distinct (board_of facts p) behind distinct in
      let others : (n : ℕ) → 0 < n → list_any (nat_eq n) (named_by behind) ≡ true → start_of (higher facts p) ≡ n → ⊥ =
      λ n more named same. other_side p behind n distinct more named same (higher_on p) in (
        ahead_pairs p rest all.0 differ all.1 order.0 later others,
        strict_pairs rest all.1 order.1 few later,
      )

  pub same_boards : CanBePaired all_boards sheet → (round facts).pairing ≡ Some pairing → boards_of put next ≡ all_boards
  same_boards can paired =
      let inside = pairs_ordered facts pairing.pairs (pairs_of_seats facts pairing paired) in
      round_boards sheet all_boards own can
      (strict_pairs (pairs_in_order facts pairing.pairs) inside (boards_in_order facts pairing.pairs) (one_bye facts pairing paired) can.once)

pub paired_boards : (sheet : Sheet) (asked : Option ℕ) (initial : Option Colour) (facts : Facts) (pairing : Pairing)
    → HasOwnStarts sheet → IfSome asked (λ total. total ≤ MOST_ROUNDS) → facts_of sheet asked initial ≡ Ok facts → (round facts).pairing ≡ Some pairing
    → boards_of (with_round (boards facts pairing) sheet) (rounds_played sheet + 1) ≡ boards facts pairing
paired_boards sheet asked initial facts pairing own few made paired =
    let field = field_of sheet asked initial facts own made in
    same_boards sheet facts pairing own (seats_are sheet asked initial facts made) field.once field.from_one
    (can_be_next sheet asked initial facts pairing own few made paired) paired
