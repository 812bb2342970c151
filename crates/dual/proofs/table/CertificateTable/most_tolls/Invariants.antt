-- The tolls so far and those to come make them all.
use Rattle.std.proofs.Common.{◌≡◌, ◌+◌, ◌<◌, ◌^◌, drop, sum_by}
use Rattle.dual.specs.Prelude.{most_toll}
use Rattle.dual.proofs.table.CertificateTable.most_tolls.Given as goal

abbrev pub invariant-loop-set : goal.invariant-loop-set
invariant-loop-set l = record {
  few : l.sum < 2 ^ 1024;
  so_far : l.sum + sum_by (most_toll l.players) (drop l.set-index l.self.sets.items) ≡ sum_by (most_toll l.players) l.self.sets.items;
}
