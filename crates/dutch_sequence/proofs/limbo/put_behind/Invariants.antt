use Rattle.std.proofs.Common.{◌≡◌, ◌++◌, take}
use Rattle.dutch_sequence.proofs.limbo.put_behind.Given as goal

abbrev pub invariant-loop-place : goal.invariant-loop-place
invariant-loop-place l = l.front.items ≡ l.initial.front.items ++ take l.place-index l.places
