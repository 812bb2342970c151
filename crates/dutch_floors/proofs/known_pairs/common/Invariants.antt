-- The pairs looked at so far are the same.
use Rattle.std.proofs.Common.{◌≡◌, take}
use Rattle.dutch_floors.specs.KnownPairs.{number_pairs}
use Rattle.dutch_floors.proofs.known_pairs.common.Given as goal

abbrev pub invariant-loop-place : goal.invariant-loop-place
invariant-loop-place l = record {
  same : take l.place l.pairs ≡ take l.place (number_pairs l.lists);
}
