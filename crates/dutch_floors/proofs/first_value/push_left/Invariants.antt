-- The scores added so far, and those of the numbers to come, make them all.
use Rattle.std.proofs.Common.{◌≡◌, ◌+◌, ◌≤◌, ◌++◌, drop, map}
use Rattle.arrayvec.specs.ArrayVec.{array_vec_len}
use Rattle.dutch_arrangements.specs.Prelude.{left_of}
use Rattle.dutch_bracket.specs.Prelude.{seat_of, score_at}
use Rattle.dutch_floors.proofs.first_value.push_left.Given as goal

abbrev pub invariant-loop-number : goal.invariant-loop-number
invariant-loop-number l = record {
  items : l.scores.items ++ map (λ i. score_at l.context.facts (seat_of l.context.reached.seats i)) (left_of (drop l.number-index l.numbers) l.s1)
      ≡ l.initial.scores.items ++ map (λ i. score_at l.context.facts (seat_of l.context.reached.seats i)) (left_of l.numbers l.s1);
  len : array_vec_len l.scores ≤ array_vec_len l.initial.scores + l.number-index;
}
