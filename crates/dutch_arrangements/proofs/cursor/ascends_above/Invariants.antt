use Rattle.std.proofs.Common.{◌≡◌, drop}
use Rattle.dutch_arrangements.specs.Prelude.{ascends_above}
use Rattle.dutch_arrangements.proofs.cursor.ascends_above.Given as goal

abbrev pub invariant-loop-number : goal.invariant-loop-number
invariant-loop-number l = ascends_above l.last (drop l.number-index l.numbers) ≡ ascends_above l.bound l.numbers
