use Rattle.std.proofs.Common.{◌≡◌, ◌+◌, ◌-◌, ◌*◌, ◌≤◌}
use Rattle.dutch_sequence.specs.Prelude.{run}
use Rattle.dutch_sequence.proofs.sums.run_of.Given as goal

abbrev pub invariant-loop-place : goal.invariant-loop-place
invariant-loop-place l = record {
  small : l.sum ≤ 65535 * (l.place - l.first);
  so_far : l.sum + run l.sides.pool.now l.sides.k l.side l.place (l.first + l.count - l.place) ≡ run l.sides.pool.now l.sides.k l.side l.first l.count;
}
