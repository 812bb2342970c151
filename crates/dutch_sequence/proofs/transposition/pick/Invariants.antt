use Rattle.std.proofs.Common.{◌≡◌, take}
use Rattle.dutch_sequence.specs.Prelude.{numbers_at}
use Rattle.dutch_sequence.proofs.transposition.pick.Given as goal

abbrev pub invariant-loop-place : goal.invariant-loop-place
invariant-loop-place l = l.numbers.items ≡ numbers_at l.pool (take l.place l.path)
