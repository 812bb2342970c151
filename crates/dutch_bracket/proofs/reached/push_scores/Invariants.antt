-- The scores added so far, and those of the seats to come, make them all.
use Rattle.std.proofs.Common.{◌≡◌, ◌+◌, ◌++◌, drop, map}
use Rattle.arrayvec.specs.ArrayVec.{array_vec_len}
use Rattle.dutch_bracket.specs.Prelude.{score_at}
use Rattle.dutch_bracket.proofs.reached.push_scores.Given as goal

abbrev pub invariant-loop-seat : goal.invariant-loop-seat
invariant-loop-seat l = record {
  items : l.scores.items ++ map (score_at l.field) (drop l.seat-index l.seats) ≡ l.initial.scores.items ++ map (score_at l.field) l.seats;
  len : array_vec_len l.scores ≡ array_vec_len l.initial.scores + l.seat-index;
}
