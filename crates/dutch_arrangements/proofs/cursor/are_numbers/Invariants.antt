use Rattle.std.proofs.Common.{◌≡◌, length}
use Rattle.std.specs.Option.{is_some}
use Rattle.dutch_arrangements.specs.Prelude.{parts}
use Rattle.dutch_arrangements.specs.Cursors.{numbers_of}
use Rattle.dutch_arrangements.proofs.cursor.are_numbers.Given as goal

abbrev pub invariant-loop-word : goal.invariant-loop-word
invariant-loop-word l = is_some (numbers_of (parts 44 l.rest)) ≡ is_some (numbers_of (parts 44 l.text))

abbrev pub decreases-loop-word : goal.decreases-loop-word
decreases-loop-word l = length l.rest
