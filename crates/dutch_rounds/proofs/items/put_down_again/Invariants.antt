-- The seats put so far, and those of the downfloaters to come, make them all.
use Rattle.std.proofs.Common.{◌≡◌, ◌+◌, ◌≤◌, ℕ, List, drop, map}
use Rattle.arrayvec.specs.ArrayVec.{array_vec_len}
use Rattle.dutch_bracket.specs.Prelude.{seats_of, again, placed_all, floats_down}
use Rattle.dutch_rounds.proofs.items.put_down_again.Given as goal

abbrev pub invariant-loop-seat : goal.invariant-loop-seat
invariant-loop-seat l =
    let facts = l.past.field.now in
    let floats : List ℕ → List ℕ = λ down. seats_of (again facts l.past.float l.past.back (map (floats_down facts l.least) down)) in
    record {
      items : placed_all l.seats.items (floats (drop l.seat-index l.down)) ≡ placed_all l.initial.seats.items (floats l.down);
      len : array_vec_len l.seats ≤ array_vec_len l.initial.seats + l.seat-index;
    }
