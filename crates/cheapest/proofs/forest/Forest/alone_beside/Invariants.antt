-- No step is given back.
use Rattle.std.proofs.Common.{◌≤◌}
use Rattle.cheapest.proofs.forest.Forest.alone_beside.Given as goal

abbrev pub invariant-loop-y : goal.invariant-loop-y
invariant-loop-y g l = l.left ≤ l.fn.left
