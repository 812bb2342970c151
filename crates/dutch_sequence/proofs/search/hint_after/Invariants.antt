use Rattle.std.proofs.Common.{◌≡◌, drop}
use Rattle.dutch_sequence.specs.Prelude.{hint_after}
use Rattle.dutch_sequence.proofs.search.hint_after.Given as goal

abbrev pub invariant-loop-place : goal.invariant-loop-place
invariant-loop-place l = hint_after l.hint l.path ≡ hint_after (drop l.place l.hint) (drop l.place l.path)
