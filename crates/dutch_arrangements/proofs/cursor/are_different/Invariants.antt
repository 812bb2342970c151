use Rattle.std.proofs.Common.{◌≡◌, drop}
use Rattle.dutch_arrangements.specs.Prelude.{are_different}
use Rattle.dutch_arrangements.proofs.cursor.are_different.Given as goal

abbrev pub invariant-loop-i : goal.invariant-loop-i
invariant-loop-i l = are_different (drop l.i l.numbers) ≡ are_different l.numbers
