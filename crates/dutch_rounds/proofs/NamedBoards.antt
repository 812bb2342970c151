-- The boards of a round name the players of its pairing, in some order.
use Rattle.std.proofs.Common.{◌≡◌, ℕ, zero, suc, ◌+◌, ◌<◌, ◌≤◌, Bool, true, false, cond, nat_lt, List, [], ◌∷◌, ◌++◌, map, length, get_or, Some, inl, inr, refl, sym, ap, ◌∙◌, subst, arith}
use Rattle.std.specs.Prelude.{All, ◌==◌}
use Rattle.std.specs.List.{AllByRecursion}
use Rattle.std.proofs.lemmas.Bool.{lt-ltb, ne_eqb, cases_lt, le-ltb, cond_both}
use Rattle.std.proofs.lemmas.List.{length-map, get_or-map}
use Rattle.dutch_arrangements.specs.Prelude.{numbers_from}
use Rattle.dutch_sequence.proofs.Lists.{map-numbers_from}
use Rattle.trf16_report.specs.declared.cell.Colour.{Colour}
use Rattle.trf16_report.specs.declared.cell.Colour.TheVariants.{White, Black}
use Rattle.trf16_report.specs.Prelude.{named_by}
use Rattle.dutch_player.specs.Prelude.{SeatFacts, Facts, seat_at, no_seat, colours, with_colour, colour_of_higher, start_ranks, CountFromOne}
use Rattle.dutch_rounds.specs.Prelude.{goes_before, with_pair, pairs_in_order, board_of, bye_of, boards, NameEverybodyOnce, Pairing, everybody, round}
use Rattle.dutch_bracket.specs.Prelude.{IsPair}
use Rattle.dutch_rounds.proofs.BoardLemmas.{colours_pair, pairs_ordered}
use Rattle.dutch_bracket.proofs.Totals.{total, total_map, same_members}
use Rattle.dutch_bracket.proofs.Everybody.{pairs_total}
use Rattle.dutch_rounds.proofs.WholeRounds.{Weighs, pairing_total, round_whole}

module _ (facts : Facts) where
  start_of : ℕ → ℕ
  start_of seat = (seat_at facts seat).start

  -- ---- the order of the boards

  placed_total : (w : ℕ → ℕ) (pair : ℕ × ℕ) (all : List (ℕ × ℕ)) → pairs_total w (with_pair facts pair all) ≡ (w pair.0 + w pair.1) + pairs_total w all
  placed_total w pair [] = refl
  placed_total w pair (first ∷ rest) =
      cond_both (goes_before facts first pair) (first ∷ with_pair facts pair rest) (pair ∷ first ∷ rest)
      (λ (all : List (ℕ × ℕ)). pairs_total w all ≡ (w pair.0 + w pair.1) + pairs_total w (first ∷ rest)) (λ e. omega (arith, placed_total w pair rest)) (λ e. refl)

  ordered_total : (w : ℕ → ℕ) (all : List (ℕ × ℕ)) → pairs_total w (pairs_in_order facts all) ≡ pairs_total w all
  ordered_total w [] = refl
  ordered_total w (pair ∷ rest) = omega (arith, ordered_total w rest, placed_total w pair (pairs_in_order facts rest))

  -- ---- whom a board names

  -- whoever of two has white
  with_total : (w : ℕ → ℕ) (a b : ℕ) (colour : Colour) → w (with_colour a b colour).0 + w (with_colour a b colour).1 ≡ w a + w b
  with_total w a b White = refl
  with_total w a b Black = omega arith

  colours_total : (w : ℕ → ℕ) (a b : ℕ) → w (colours facts a b).0 + w (colours facts a b).1 ≡ w a + w b
  colours_total w a b =
      cond_both (nat_lt a b) (with_colour a b (colour_of_higher facts a b)) (with_colour b a (colour_of_higher facts b a)) (λ (both : ℕ × ℕ). w both.0 + w both.1 ≡ w a + w b)
      (λ e. with_total w a b (colour_of_higher facts a b)) (λ e. omega (arith, with_total w b a (colour_of_higher facts b a)))

  -- ---- start ranks

  some_start : (starts : List ℕ) (i : ℕ) → i < length starts → All (λ start. 0 < start) starts → 0 < get_or starts i 0
  some_start starts i lt all = all i 0 lt

  starts_counted : length (start_ranks facts) ≡ length facts.seats
  starts_counted = length-map facts.seats (λ (seat : SeatFacts). seat.start)

  start_is : (i : ℕ) → i < length facts.seats → start_of i ≡ get_or (start_ranks facts) i 0
  unfolding start_of
  start_is i lt = sym (get_or-map (λ (seat : SeatFacts). seat.start) facts.seats i no_seat 0 lt)

  start_counts : CountFromOne facts → (i : ℕ) → i < length facts.seats → 0 < start_of i
  start_counts from i lt = subst (λ n. 0 < n) (sym (start_is i lt)) (some_start (start_ranks facts) i (omega (arith, lt, starts_counted)) from)

  -- ---- whom the boards name

  named_at : (w : ℕ → ℕ) (board : ℕ × ℕ) (both front back : List ℕ) (t : Bool) → total w both ≡ total w front + total w back
      → total w (cond t (board.0 ∷ both) (board.0 ∷ board.1 ∷ both)) ≡ total w (cond t (board.0 ∷ front) (board.0 ∷ board.1 ∷ front)) + total w back
  named_at w board both front back true more = omega (arith, more)
  named_at w board both front back false more = omega (arith, more)

  named_append : (w : ℕ → ℕ) (xs ys : List (ℕ × ℕ)) → total w (named_by (xs ++ ys)) ≡ total w (named_by xs) + total w (named_by ys)
  named_append w [] ys = omega arith
  named_append w (board ∷ xs) ys = named_at w board (named_by (xs ++ ys)) (named_by xs) (named_by ys) (board.1 == 0) (named_append w xs ys)

  named_pairs : (w : ℕ → ℕ) (pairs : List (ℕ × ℕ)) → CountFromOne facts → AllByRecursion (IsPair facts) pairs
      → total w (named_by (map (board_of facts) pairs)) ≡ pairs_total (λ seat. w (start_of seat)) pairs
  unfolding start_of board_of
  named_pairs w [] from all = refl
  named_pairs w (pair ∷ pairs) from all =
      let seats : ℕ × ℕ = colours facts pair.0 pair.1 in
      let inside = colours_pair facts pair.0 pair.1 all.0 in
      let black : 0 < start_of seats.1 = start_counts from seats.1 inside.1 in
      let some : (start_of seats.1 == 0) ≡ false = ne_eqb (start_of seats.1) 0 (λ e. omega (arith, black, e)) in
      let later = named_pairs w pairs from all.1 in
      let both = colours_total (λ seat. w (start_of seat)) pair.0 pair.1 in
      let rest : List ℕ = named_by (map (board_of facts) pairs) in
      let here = ap (λ t. total w (cond t (start_of seats.0 ∷ rest) (start_of seats.0 ∷ start_of seats.1 ∷ rest))) some in
      omega (arith, here, later, both)

  named_byes : (w : ℕ → ℕ) (bye : List ℕ) → total w (named_by (map (bye_of facts) bye)) ≡ total (λ seat. w (start_of seat)) bye
  unfolding start_of
  named_byes w [] = refl
  named_byes w (seat ∷ bye) = ap (λ n. w (start_of seat) + n) (named_byes w bye)

  -- ---- whoever is paired is a seat

  outside : ℕ → ℕ
  outside seat = cond (nat_lt seat (length facts.seats)) 0 1

  outside_more : (seat : ℕ) → outside seat ≡ 0 → seat < length facts.seats
  unfolding outside
  outside_more seat e = elim (cases_lt seat (length facts.seats)) [
    | inl lt ↦ lt
    | inr le ↦ absurd (omega (arith, e, ap {B = ℕ} (λ (t : Bool). cond t 0 1) (le-ltb seat (length facts.seats) le)))
  ]

  nobody_outside : (first count : ℕ) → first + count ≤ length facts.seats → total outside (numbers_from first count) ≡ 0
  unfolding outside
  nobody_outside first zero h = refl
  nobody_outside first (suc count) h =
      omega (arith, nobody_outside (suc first) count (omega arith), ap {B = ℕ} (λ (t : Bool). cond t 0 1) (lt-ltb first (length facts.seats) (omega arith)))

  pairs_inside : (pairs : List (ℕ × ℕ)) → pairs_total outside pairs ≡ 0 → AllByRecursion (IsPair facts) pairs
  pairs_inside [] e = tt
  pairs_inside (pair ∷ pairs) e = ((outside_more pair.0 (omega (arith, e)), outside_more pair.1 (omega (arith, e))), pairs_inside pairs (omega (arith, e)))

  -- ---- the boards of a round

  weighed : (w : ℕ → ℕ) (pairing : Pairing) → (round facts).pairing ≡ Some pairing → pairing_total w pairing ≡ total w (everybody facts)
  weighed w pairing e = (subst (λ found. Weighs w (total w (everybody facts)) found) e (round_whole w facts)).0

  -- whoever is paired has a seat
  pub pairs_of_seats : (pairing : Pairing) → (round facts).pairing ≡ Some pairing → AllByRecursion (IsPair facts) pairing.pairs
  pairs_of_seats pairing e =
      let none = weighed outside pairing e in
      let empty = nobody_outside 0 (length facts.seats) (omega arith) in
      pairs_inside pairing.pairs (omega (arith, none, empty))

  all_starts : map start_of (everybody facts) ≡ start_ranks facts
  unfolding start_of
  all_starts =
      ap (λ n. map start_of (numbers_from 0 n)) (sym starts_counted)
      ∙ map-numbers_from start_of (start_ranks facts) 0 (λ j lt. ap start_of (let e : 0 + j ≡ j = omega arith in e) ∙ start_is j (omega (arith, lt, starts_counted)))

  boards_weighed : (pairing : Pairing) → CountFromOne facts → (round facts).pairing ≡ Some pairing → (w : ℕ → ℕ)
      → total w (start_ranks facts) ≡ total w (named_by (boards facts pairing))
  boards_weighed pairing from e w =
      let by_start : ℕ → ℕ = λ seat. w (start_of seat) in
      let inside : AllByRecursion (IsPair facts) pairing.pairs = pairs_of_seats pairing e in
      let all : List (ℕ × ℕ) = pairs_in_order facts pairing.pairs in
      let in_order : AllByRecursion (IsPair facts) all = pairs_ordered facts pairing.pairs inside in
      let whole = weighed by_start pairing e in
      let starts = ap (total w) (sym all_starts) ∙ total_map w start_of (everybody facts) in
      let split = named_append w (map (board_of facts) all) (map (bye_of facts) pairing.bye) in
      omega (arith, whole, starts, split, named_pairs w all from in_order, named_byes w pairing.bye, ordered_total by_start pairing.pairs)

  pub everybody_named : (pairing : Pairing) → CountFromOne facts → (round facts).pairing ≡ Some pairing → NameEverybodyOnce facts (boards facts pairing)
  everybody_named pairing from e =
      same_members (start_ranks facts) (named_by (boards facts pairing)) (boards_weighed pairing from e)
