use Rattle.std.proofs.Common.{◌≡◌, take}
use Rattle.dutch_sequence.specs.Prelude.{numbers_at}
use Rattle.dutch_sequence.proofs.transposition.put_over.Given as goal

abbrev pub invariant-loop-place : goal.invariant-loop-place
invariant-loop-place l = take l.place l.numbers ≡ numbers_at l.pool (take l.place l.path)
