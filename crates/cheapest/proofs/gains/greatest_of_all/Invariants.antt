-- No step is given back.
use Rattle.std.proofs.Common.{◌≡◌, ◌≤◌}
use Rattle.cheapest.proofs.gains.greatest_of_all.Given as goal

abbrev pub invariant-loop-a : goal.invariant-loop-a
invariant-loop-a g l = record { end : l.a-end ≡ g.C.Costs.vertices l.costs; falls : l.left ≤ l.fn.left }
