-- Each number is summed, and none is to come at the end.
use Rattle.std.proofs.Common.{arith}
use Rattle.dutch_weight_floors.specs.Prelude.{kept}
use Rattle.dutch_weight_floors.proofs.BoundSums.{no_number, one_number}
use Rattle.dutch_weight_floors.proofs.order.Order.all_kept.Goals as goal

pub loop-number-preserved : goal.loop-number-preserved
loop-number-preserved c =
    omega (
      arith,
      c.loop-number.invariant,
      one_number (kept c.args.self.now c.args.barred.now) c.args.original.now c.loop-number.number-index c.loop-number-test.true,
      c.in_ok-kept.ensures,
      c.in_ok-sum.ensures.1,
    )

pub returns : goal.returns
returns c = omega (arith, c.loop-number.invariant, no_number (kept c.args.self.now c.args.barred.now) c.args.original.now c.loop-number.number-index c.loop-number-test.false)
