-- Each number is summed, and none is to come at the end.
use Rattle.std.proofs.Common.{arith}
use Rattle.dutch_weight_floors.specs.Prelude.{added_for}
use Rattle.dutch_weight_floors.proofs.BoundSums.{no_number, one_number}
use Rattle.dutch_weight_floors.proofs.order.Order.of.Goals as goal

pub loop-number-preserved : goal.loop-number-preserved
loop-number-preserved c =
    omega (
      arith,
      c.loop-number.invariant,
      one_number (added_for c.args.self.now) c.args.s1r.now c.loop-number.number-index c.loop-number-test.true,
      c.in_ok-added_for.ensures.1,
      c.in_ok-sum.ensures.1,
    )

pub returns : goal.returns
returns c = omega (arith, c.loop-number.invariant, no_number (added_for c.args.self.now) c.args.s1r.now c.loop-number.number-index c.loop-number-test.false)
