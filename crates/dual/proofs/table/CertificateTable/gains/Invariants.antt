-- The potentials so far and those to come make them all.
use Rattle.std.proofs.Common.{◌≡◌, ◌+◌, ◌<◌, ◌^◌, drop, sum_by}
use Rattle.dual.specs.Prelude.{potential_in}
use Rattle.dual.proofs.table.CertificateTable.gains.Given as goal

abbrev pub invariant-loop-v : goal.invariant-loop-v
invariant-loop-v l = record {
  few : l.sum < 2 ^ 1024;
  so_far : l.sum + sum_by (potential_in l.self) (drop l.v-index l.players) ≡ sum_by (potential_in l.self) l.players;
}
