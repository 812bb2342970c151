-- The seats put so far, and those of the pairs to come, make them all.
use Rattle.std.proofs.Common.{◌≡◌, ◌+◌, ◌≤◌, ℕ, List, drop, map, filter}
use Rattle.arrayvec.specs.ArrayVec.{array_vec_len}
use Rattle.dutch_bracket.specs.Prelude.{seats_of, again, placed_all, goes, is_uneven}
use Rattle.dutch_rounds.proofs.items.put_again.Given as goal

abbrev pub invariant-loop-pair : goal.invariant-loop-pair
invariant-loop-pair l =
    let facts = l.past.field.now in
    let floats : List (ℕ × ℕ) → List ℕ = λ pairs. seats_of (again facts l.past.float l.past.back (map (goes facts l.past.float) (filter (is_uneven facts) pairs))) in
    record {
      items : placed_all l.seats.items (floats (drop l.pair-index l.pairs)) ≡ placed_all l.initial.seats.items (floats l.pairs);
      len : array_vec_len l.seats ≤ array_vec_len l.initial.seats + l.pair-index;
    }
