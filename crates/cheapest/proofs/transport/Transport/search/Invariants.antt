-- No step is given back.
use Rattle.std.proofs.Common.{◌≤◌}
use Rattle.cheapest.proofs.transport.Transport.search.Given as goal

abbrev pub invariant-loop : goal.invariant-loop
invariant-loop l = l.left ≤ l.fn.left
