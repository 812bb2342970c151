-- Those kept so far are those of the numbers passed that are not marked.
use Rattle.std.proofs.Common.{◌≡◌, ◌≤◌, not, filter}
use Rattle.arrayvec.specs.ArrayVec.{array_vec_len}
use Rattle.dutch_arrangements.specs.Prelude.{numbers_from}
use Rattle.dutch_bracket.specs.Prelude.{has_bit}
use Rattle.dutch_floors.proofs.lonely.put_unmarked.Given as goal

abbrev pub invariant-loop-place : goal.invariant-loop-place
invariant-loop-place l = record {
  items : l.left.items ≡ filter (λ x. not (has_bit l.marks x)) (numbers_from l.first l.place);
  len : array_vec_len l.left ≤ l.place;
}
