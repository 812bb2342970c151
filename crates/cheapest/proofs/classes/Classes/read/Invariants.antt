-- The vertices are those of the graph.
use Rattle.std.proofs.Common.{◌≡◌}
use Rattle.cheapest.proofs.classes.Classes.read.Given as goal

abbrev pub invariant-loop-v : goal.invariant-loop-v
invariant-loop-v g l = l.v-end ≡ g.C.Costs.vertices l.costs
