-- The differences put so far, and those of the numbers to come, make them all.
use Rattle.std.proofs.Common.{◌≡◌, ◌+◌, ◌-◌, ◌≤◌, map}
use Rattle.arrayvec.specs.ArrayVec.{array_vec_len}
use Rattle.dutch_arrangements.specs.Prelude.{numbers_from, left_of}
use Rattle.dutch_bracket.specs.Prelude.{seat_of, score_at, placed_all}
use Rattle.dutch_candidates.proofs.psd_floor.FlatShape.put_limbo.Given as goal

abbrev pub invariant-loop-above : goal.invariant-loop-above
invariant-loop-above l = record {
  items : placed_all l.psd.items (map (λ i. (score_at l.self.rule.field.now (seat_of l.self.rule.reached.now.seats i) - l.self.score) + 2) (left_of (numbers_from (l.above + 1) (l.self.rule.reached.now.mdps - l.above)) l.s1))
      ≡ placed_all l.initial.psd.items (map (λ i. (score_at l.self.rule.field.now (seat_of l.self.rule.reached.now.seats i) - l.self.score) + 2) (left_of (numbers_from 1 l.self.rule.reached.now.mdps) l.s1));
  len : array_vec_len l.psd ≤ array_vec_len l.initial.psd + l.above;
}
