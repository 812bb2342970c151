-- No step is given back.
use Rattle.std.proofs.Common.{◌≤◌}
use Rattle.cheapest.proofs.forest.Forest.nearest_neighbour.Given as goal

abbrev pub invariant-loop-vertex : goal.invariant-loop-vertex
invariant-loop-vertex g l = l.left ≤ l.fn.left
