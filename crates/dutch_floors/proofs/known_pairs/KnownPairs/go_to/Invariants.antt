-- The pairs so far are a front of those of the lists.
use Rattle.std.proofs.Common.{◌≡◌, take}
use Rattle.dutch_floors.specs.KnownPairs.{AreSums, by_seat, number_pairs}
use Rattle.dutch_floors.proofs.known_pairs.KnownPairs.go_to.Given as goal

abbrev pub invariant-loop-place : goal.invariant-loop-place
invariant-loop-place l = record {
  known : AreSums l.context.facts (by_seat l.context.reached.seats l.self.pairs.items) l.self.sums;
  pairs : l.self.pairs.items ≡ take l.place (number_pairs l.lists);
}
