-- The numbers passed so far are of other classes.
use Rattle.std.proofs.Common.{◌<◌, ◌≤◌}
use Rattle.dutch_weighing.proofs.weighing.Weigher.first_for.Given as goal

abbrev pub invariant-loop-before : goal.invariant-loop-before
invariant-loop-before l = (0 < l.before) × (l.before ≤ l.number)
