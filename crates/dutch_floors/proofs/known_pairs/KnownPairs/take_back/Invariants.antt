-- What is left is a front of the pairs, and its sums are known.
use Rattle.std.proofs.Common.{◌≡◌, ◌≤◌, length, take}
use Rattle.dutch_floors.specs.KnownPairs.{AreSums, by_seat}
use Rattle.dutch_floors.proofs.known_pairs.KnownPairs.take_back.Given as goal

abbrev pub invariant-loop-self : goal.invariant-loop-self
invariant-loop-self l = record {
  known : AreSums l.context.facts (by_seat l.context.reached.seats l.self.pairs.items) l.self.sums;
  within : l.count ≤ length l.self.pairs.items;
  pairs : l.self.pairs.items ≡ take (length l.self.pairs.items) l.initial.self.pairs.items;
}

abbrev pub decreases-loop-self : goal.decreases-loop-self
decreases-loop-self l = length l.self.pairs.items
