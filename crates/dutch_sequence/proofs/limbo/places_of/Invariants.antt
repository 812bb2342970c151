use Rattle.std.proofs.Common.{◌≡◌, take}
use Rattle.dutch_sequence.specs.Prelude.{places_of}
use Rattle.dutch_sequence.proofs.limbo.places_of.Given as goal

abbrev pub invariant-loop-number : goal.invariant-loop-number
invariant-loop-number l = l.places.items ≡ places_of (take l.number-index l.numbers)
