-- The numbers that were put are those of players, and no more than were looked at.
use Rattle.std.proofs.Common.{◌≤◌, All, length}
use Rattle.dutch_weight_floors.specs.Prelude.{IsReached}
use Rattle.dutch_weight_floors.proofs.unpaired_graph.numbers_beside.Given as goal

abbrev pub invariant-loop-above : goal.invariant-loop-above
invariant-loop-above l = record {
  inside : All (IsReached l.scoped) l.numbers.items;
  few : length l.numbers.items ≤ l.above;
}
