-- One more is met, or passed over and added.
use Rattle.std.proofs.Common.{◌+◌, ◌-◌, drop, sum_by, ap, arith}
use Rattle.dual.specs.Prelude.{slack_left_in}
use Rattle.dutch_weight_floors.specs.Prelude.{passed_over}
use Rattle.dutch_weight_floors.proofs.BoundSums.{at_most_one, one_more}
use Rattle.dutch_weight_floors.proofs.weight_floor.plus_outside.Goals as goal

pub loop-above-preserved : goal.loop-above-preserved
loop-above-preserved c =
    let f = slack_left_in c.args.floor.now in
    let step = one_more f c.args.s1.now c.loop-above.met c.loop-above.above c.args.mdps c.is_at-is_met.result c.loop-above-test.true c.is_at-is_met.ensures in
    let moved = ap (λ n. sum_by f (passed_over (drop n c.args.s1.now) ((c.loop-above.above + 1) + 1) (c.args.mdps - (c.loop-above.above + 1)))) c.place_after-met.ensures in (
      omega (arith, step, moved, c.loop-above.invariant.0, c.extra_outside.ensures, c.in_ok-sum.ensures.1),
      omega (arith, c.loop-above.invariant.1, c.place_after-met.ensures, at_most_one c.is_at-is_met.result),
    )
