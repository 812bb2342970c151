-- What is summed so far, and what those to come add, is what all add.
use Rattle.std.proofs.Common.{◌≡◌, ◌+◌, drop, sum_by}
use Rattle.dutch_weight_floors.specs.Prelude.{kept}
use Rattle.dutch_weight_floors.proofs.order.Order.all_kept.Given as goal

abbrev pub invariant-loop-number : goal.invariant-loop-number
invariant-loop-number l = l.sum + sum_by (kept l.self l.barred) (drop l.number-index l.original) ≡ sum_by (kept l.self l.barred) l.original
