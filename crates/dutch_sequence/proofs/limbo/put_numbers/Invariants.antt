use Rattle.std.proofs.Common.{◌≡◌, take}
use Rattle.dutch_sequence.specs.Prelude.{numbers_of}
use Rattle.dutch_sequence.proofs.limbo.put_numbers.Given as goal

abbrev pub invariant-loop-place : goal.invariant-loop-place
invariant-loop-place l = l.numbers.items ≡ numbers_of (take l.place-index l.places)
