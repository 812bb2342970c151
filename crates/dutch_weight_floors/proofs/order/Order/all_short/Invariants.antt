-- What is summed so far, and what those to come have less, is what all have less.
use Rattle.std.proofs.Common.{◌≡◌, ◌+◌, drop, sum_by}
use Rattle.dutch_weight_floors.specs.Prelude.{short_of}
use Rattle.dutch_weight_floors.proofs.order.Order.all_short.Given as goal

abbrev pub invariant-loop-number : goal.invariant-loop-number
invariant-loop-number l =
    l.sum + sum_by (short_of l.self l.top l.held) (drop l.number-index l.others) ≡ sum_by (short_of l.self l.top l.held) l.others
