-- The look-ahead stays that of the bracket.
use Rattle.std.proofs.Common.{◌≡◌}
use Rattle.front_tests.proofs.look_ahead_tests.look_up_the_first_65.Given as goal

abbrev pub invariant-loop-number : goal.invariant-loop-number
invariant-loop-number l = l.look.reached ≡ l.initial.look.reached
