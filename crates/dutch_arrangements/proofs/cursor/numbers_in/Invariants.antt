use Rattle.std.proofs.Common.{◌≡◌, ◌++◌, length}
use Rattle.std.specs.Option.{option_map}
use Rattle.dutch_arrangements.specs.Prelude.{parts}
use Rattle.dutch_arrangements.specs.Cursors.{numbers_of}
use Rattle.dutch_arrangements.proofs.cursor.numbers_in.Given as goal

abbrev pub invariant-loop-word : goal.invariant-loop-word
invariant-loop-word l = numbers_of (parts 44 l.text) ≡ option_map (λ later. l.numbers.items ++ later) (numbers_of (parts 44 l.rest))

abbrev pub decreases-loop-word : goal.decreases-loop-word
decreases-loop-word l = length l.rest
