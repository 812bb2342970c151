-- The tolls so far and those to come make them all.
use Rattle.std.proofs.Common.{◌≡◌, ◌+◌, ◌<◌, ◌^◌, drop, sum_by}
use Rattle.dual.specs.Prelude.{toll_of}
use Rattle.dual.proofs.check.Row.tolls.Given as goal

abbrev pub invariant-loop-set : goal.invariant-loop-set
invariant-loop-set l = record {
  few : l.sum < 2 ^ 1024;
  so_far : l.sum + sum_by (λ set. toll_of l.v set.now) (drop l.set-index l.self.sets.items) ≡ sum_by (λ set. toll_of l.v set.now) l.self.sets.items;
}
