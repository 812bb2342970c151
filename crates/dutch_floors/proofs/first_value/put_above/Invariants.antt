-- The differences put so far, and those to come, make them all.
use Rattle.std.proofs.Common.{◌≡◌, ◌+◌, ◌-◌, drop, map}
use Rattle.arrayvec.specs.ArrayVec.{array_vec_len}
use Rattle.dutch_bracket.specs.Prelude.{placed_all}
use Rattle.dutch_floors.proofs.first_value.put_above.Given as goal

abbrev pub invariant-loop-score : goal.invariant-loop-score
invariant-loop-score l = record {
  items : placed_all l.numbers.items (map (λ x. x - l.least) (drop l.score-index l.scores)) ≡ placed_all l.initial.numbers.items (map (λ x. x - l.least) l.scores);
  len : array_vec_len l.numbers ≡ array_vec_len l.initial.numbers + l.score-index;
}
