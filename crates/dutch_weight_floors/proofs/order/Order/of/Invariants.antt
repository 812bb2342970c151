-- What is summed so far, and what those to come add, is what all add.
use Rattle.std.proofs.Common.{◌≡◌, ◌+◌, drop, sum_by}
use Rattle.dutch_weight_floors.specs.Prelude.{added_for}
use Rattle.dutch_weight_floors.proofs.order.Order.of.Given as goal

abbrev pub invariant-loop-number : goal.invariant-loop-number
invariant-loop-number l = l.sum + sum_by (added_for l.self) (drop l.number-index l.s1r) ≡ sum_by (added_for l.self) l.s1r
