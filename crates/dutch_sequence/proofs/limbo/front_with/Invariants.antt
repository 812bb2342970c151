use Rattle.std.proofs.Common.{◌≡◌, ◌+◌, drop}
use Rattle.dutch_sequence.specs.Prelude.{front_with}
use Rattle.dutch_sequence.proofs.limbo.front_with.Given as goal

abbrev pub invariant-loop-place : goal.invariant-loop-place
invariant-loop-place l = record {
  at_place : l.count ≡ l.place-index;
  so_far : front_with l.scores l.score l.places ≡ l.count + front_with l.scores l.score (drop l.place-index l.places);
}
