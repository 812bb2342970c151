use Rattle.std.proofs.Common.{◌≡◌, take}
use Rattle.dutch_sequence.specs.Prelude.{places_in}
use Rattle.dutch_sequence.proofs.transposition.put_places.Given as goal

abbrev pub invariant-loop-number : goal.invariant-loop-number
invariant-loop-number l = l.places.items ≡ places_in l.pool (take l.number-index l.numbers)
