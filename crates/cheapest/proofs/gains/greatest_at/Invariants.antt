-- No step is given back.
use Rattle.std.proofs.Common.{◌≡◌, ◌≤◌}
use Rattle.cheapest.proofs.gains.greatest_at.Given as goal

abbrev pub invariant-loop-b : goal.invariant-loop-b
invariant-loop-b g l = record { end : l.end ≡ g.C.Costs.vertices l.costs; falls : l.left ≤ l.fn.left }
