-- The sum so far and what those to come add whom S1 passes over are the sum of all.
use Rattle.std.proofs.Common.{◌≡◌, ◌+◌, ◌-◌, ◌≤◌, drop, sum_by}
use Rattle.dual.specs.Prelude.{slack_left_in}
use Rattle.dutch_weight_floors.specs.Prelude.{passed_over}
use Rattle.dutch_weight_floors.proofs.weight_floor.plus_outside.Given as goal

abbrev pub invariant-loop-above : goal.invariant-loop-above
invariant-loop-above l =
    (l.sum + sum_by (slack_left_in l.floor) (passed_over (drop l.met l.s1) (l.above + 1) (l.mdps - l.above))
    ≡ l.fn.sum + sum_by (slack_left_in l.floor) (passed_over l.s1 1 l.mdps)) × (l.met ≤ l.above)
