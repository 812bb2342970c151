-- Each pair is added, and no pair is to come at the end of the shorter list.
use Rattle.std.proofs.Common.{◌≤◌, length, min, subst, arith}
use Rattle.dual.specs.Prelude.{slack_in}
use Rattle.dutch_weight_floors.proofs.BoundSums.{no_pair, one_pair}
use Rattle.dutch_weight_floors.proofs.weight_floor.plus_pairs.Goals as goal

pub returns : goal.returns
returns c =
    let end : min (length c.args.firsts.now) (length c.args.seconds.now) ≤ c.loop-i.i = subst (λ n. n ≤ c.loop-i.i) c.min-count.ensures c.loop-i-test.false in
    omega (arith, c.loop-i.invariant, no_pair (slack_in c.args.floor.now) c.args.firsts.now c.args.seconds.now c.loop-i.i end)

pub loop-i-preserved : goal.loop-i-preserved
loop-i-preserved c =
    omega (
      arith,
      c.loop-i.invariant,
      one_pair (slack_in c.args.floor.now) c.args.firsts.now c.args.seconds.now c.loop-i.i c.min-count.result c.loop-i-test.true c.min-count.ensures,
      c.slack.ensures,
      c.in_ok-sum.ensures.1,
    )
