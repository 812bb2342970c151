-- The differences put so far, and those of the numbers to come, make them all.
use Rattle.std.proofs.Common.{◌≡◌, ◌+◌, ◌-◌, drop, map}
use Rattle.arrayvec.specs.ArrayVec.{array_vec_len}
use Rattle.dutch_bracket.specs.Prelude.{seat_of, score_at, placed_all}
use Rattle.dutch_candidates.proofs.psd_floor.FlatShape.put_paired.Given as goal

abbrev pub invariant-loop-number : goal.invariant-loop-number
invariant-loop-number l = record {
  items : placed_all l.psd.items (map (λ i. score_at l.self.rule.field.now (seat_of l.self.rule.reached.now.seats i) - l.self.score) (drop l.number-index l.s1))
      ≡ placed_all l.initial.psd.items (map (λ i. score_at l.self.rule.field.now (seat_of l.self.rule.reached.now.seats i) - l.self.score) l.s1);
  len : array_vec_len l.psd ≡ array_vec_len l.initial.psd + l.number-index;
}
