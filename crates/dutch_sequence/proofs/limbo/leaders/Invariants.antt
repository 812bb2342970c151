use Rattle.std.proofs.Common.{◌≡◌, ◌++◌, length, drop}
use Rattle.dutch_sequence.specs.Prelude.{leaders}
use Rattle.dutch_sequence.proofs.limbo.leaders.Given as goal

abbrev pub invariant-loop-place : goal.invariant-loop-place
invariant-loop-place l = record {
  so_far : leaders l.scores 0 l.places ≡ l.path.items ++ leaders l.scores l.first (drop l.place-index l.places);
  many : length l.path.items ≡ l.place-index;
}
