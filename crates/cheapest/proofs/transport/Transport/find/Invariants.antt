-- No step is given back.
use Rattle.std.proofs.Common.{◌≤◌}
use Rattle.cheapest.proofs.transport.Transport.find.Given as goal

abbrev pub invariant-loop-row : goal.invariant-loop-row
invariant-loop-row l = l.left ≤ l.fn.left
