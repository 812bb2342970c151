-- No step is given back.
use Rattle.std.proofs.Common.{◌≤◌}
use Rattle.cheapest.proofs.forest.Forest.pair_all_in_order.Given as goal

abbrev pub invariant-loop-v : goal.invariant-loop-v
invariant-loop-v g l = l.left ≤ l.fn.left
