-- No step is given back.
use Rattle.std.proofs.Common.{◌≤◌}
use Rattle.cheapest.proofs.forest.Forest.settle.Given as goal

abbrev pub invariant-loop : goal.invariant-loop
invariant-loop g l = l.left ≤ l.fn.left
