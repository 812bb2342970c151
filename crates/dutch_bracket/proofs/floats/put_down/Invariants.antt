-- The differences put so far, and those of the downfloaters to come, make them all.
use Rattle.std.proofs.Common.{◌≡◌, ◌+◌, ◌≤◌, ℕ, List, drop, map}
use Rattle.arrayvec.specs.ArrayVec.{array_vec_len}
use Rattle.dutch_bracket.specs.Prelude.{again, placed_all, floats_down}
use Rattle.dutch_bracket.proofs.floats.put_down.Given as goal

abbrev pub invariant-loop-seat : goal.invariant-loop-seat
invariant-loop-seat l =
    let facts = l.past.field.now in
    let floats : List ℕ → List ℕ = λ seats. map (λ floater. floater.by) (again facts l.past.float l.past.back (map (floats_down facts l.least) seats)) in
    record {
      items : placed_all l.by.items (floats (drop l.seat-index l.down)) ≡ placed_all l.initial.by.items (floats l.down);
      len : array_vec_len l.by ≤ array_vec_len l.initial.by + l.seat-index;
    }
