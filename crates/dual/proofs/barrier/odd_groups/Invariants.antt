-- The count so far is that of the groups so far.
use Rattle.std.proofs.Common.{◌≡◌, ◌≤◌}
use Rattle.std.specs.Prelude.{slice_index}
use Rattle.dual.specs.Prelude.{odd_groups}
use Rattle.dual.proofs.barrier.odd_groups.Given as goal

abbrev pub invariant-loop-below : goal.invariant-loop-below
invariant-loop-below l = record {
  few : l.count ≤ l.below;
  so_far : l.count ≡ odd_groups l.players (slice_index l.labels) l.below;
}
