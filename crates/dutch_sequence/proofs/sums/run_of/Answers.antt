use Rattle.std.proofs.Common.{◌+◌, arith}
use Rattle.dutch_sequence.specs.Prelude.{value_of}
use Rattle.dutch_sequence.proofs.Totals.{total-step}
use Rattle.dutch_sequence.proofs.sums.run_of.Goals as goal

pub loop-place-preserved : goal.loop-place-preserved
loop-place-preserved c =
    let step = total-step (value_of c.args.sides.now.pool.now c.args.sides.now.k c.args.side) c.loop-place.place (c.args.first + c.args.count) (omega arith) in
    record {
      small = omega (arith, c.value_at-sum.ensures.small);
      so_far = omega (arith, step, c.value_at-sum.ensures.value, c.loop-place.invariant.so_far);
    }
