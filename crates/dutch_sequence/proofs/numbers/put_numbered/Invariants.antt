use Rattle.std.proofs.Common.{◌≡◌}
use Rattle.dutch_sequence.specs.Prelude.{numbers_from}
use Rattle.dutch_sequence.proofs.numbers.put_numbered.Given as goal

abbrev pub invariant-loop-place : goal.invariant-loop-place
invariant-loop-place l = l.numbers.items ≡ numbers_from l.first l.place
