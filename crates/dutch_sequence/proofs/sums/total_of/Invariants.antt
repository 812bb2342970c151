use Rattle.std.proofs.Common.{◌≡◌, ◌+◌, ◌*◌, ◌≤◌, drop}
use Rattle.dutch_sequence.specs.Prelude.{total, value_of}
use Rattle.dutch_sequence.proofs.sums.total_of.Given as goal

abbrev pub invariant-loop-place : goal.invariant-loop-place
invariant-loop-place l = record {
  small : l.sum ≤ 65535 * l.place-index;
  so_far : l.sum + total (value_of l.sides.pool.now l.sides.k l.side) (drop l.place-index l.places) ≡ total (value_of l.sides.pool.now l.sides.k l.side) l.places;
}
