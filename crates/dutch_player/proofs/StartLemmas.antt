-- The seat of a start rank, seat by seat.
use Rattle.std.proofs.Common.{◌≡◌, ℕ, true, false, ◌==◌, ◌+◌, ◌≤◌, ◌<◌, List, Option, Some, None, length, get_or, drop, map, refl, sym, ◌∙◌}
use Rattle.std.specs.List.{position_from}
use Rattle.std.proofs.lemmas.Bool.{eq-eqb, eqb-true, true≢false}
use Rattle.std.proofs.lemmas.Iterator.Adapters.{position_from-zero}
use Rattle.std.proofs.lemmas.List.{drop_more, drop_all}
use Rattle.std.proofs.lemmas.List.Quantifiers.{position-Some}
use Rattle.trf16_report.proofs.MarkLemmas.{none_from}
use Rattle.dutch_player.specs.declared.seat.Seat.{Seat}
use Rattle.dutch_player.specs.Prelude.{facts_in, Facts, no_seat, seat_at, has_start, seat_with, TellsSeat}

told : (facts : Facts) (start : ℕ) (given : Option ℕ) → seat_with facts start ≡ given → TellsSeat facts start given
told facts start (Some seat) e =
    let found = position-Some (has_start start) facts.seats seat no_seat (position_from-zero (has_start start) facts.seats ∙ e) in
    (found.0, eqb-true (seat_at facts seat).start start found.1)
told facts start None e = λ seat lt same. true≢false (sym (eq-eqb (seat_at facts seat).start start same) ∙ none_from (has_start start) 0 facts.seats seat no_seat e lt)

pub tells_seat : (facts : Facts) (start : ℕ) → TellsSeat facts start (seat_with facts start)
tells_seat facts start = told facts start (seat_with facts start) refl

-- ---- seat by seat

pub passed : (start : ℕ) (seats : List Seat) (i : ℕ) (one : Seat) → i < length seats → one ≡ get_or seats i one → (one.start == start) ≡ false
    → position_from (has_start start) i (map facts_in (drop i seats)) ≡ position_from (has_start start) (i + 1) (map facts_in (drop (i + 1) seats))
passed start seats i one lt is other = rw (drop_more seats i one lt, ← is, other) refl

pub found_here : (start : ℕ) (seats : List Seat) (i : ℕ) (one : Seat) → i < length seats → one ≡ get_or seats i one → (one.start == start) ≡ true
    → position_from (has_start start) i (map facts_in (drop i seats)) ≡ Some i
found_here start seats i one lt is same = rw (drop_more seats i one lt, ← is, same) refl

pub not_found : (start : ℕ) (seats : List Seat) (i : ℕ) → length seats ≤ i → position_from (has_start start) i (map facts_in (drop i seats)) ≡ None
not_found start seats i le = rw (drop_all i seats le) refl
