-- What was skipped in the turns so far is pruned, and the walk goes on with the rest.
use Rattle.std.proofs.Common.{◌≡◌, ◌-◌}
use Rattle.dutch_arrangements.specs.Prelude.{Spends}
use Rattle.dutch_passes.specs.Prelude.{PassesPruned}
use Rattle.dutch_search.proofs.guide.BothFloorsGuide.draw.Given as goal

abbrev pub invariant-loop-self : goal.invariant-loop-self
invariant-loop-self l = record {
  passed : PassesPruned l.so_far l.initial.lister.listing.coming l.lister.listing.coming;
  frame : l.lister.listing.frame ≡ l.initial.lister.listing.frame;
  shape : l.lister.listing.shape ≡ l.initial.lister.listing.shape;
  rule : l.lister.listing.rule ≡ l.initial.lister.listing.rule;
  context : l.self.shaped.context.now ≡ l.initial.self.shaped.context.now;
  of_shape : l.self.shaped.shape ≡ l.initial.self.shaped.shape;
  counts : l.self.counts ≡ l.initial.self.counts;
  weights : l.self.weights.value ≡ l.initial.self.weights.value;
  spends : Spends l.initial.budget l.budget;
}

abbrev pub decreases-loop-self : goal.decreases-loop-self
decreases-loop-self l = l.budget.limit - l.budget.used
