use Rattle.dutch_arrangements.specs.Prelude.{Arrangement, IsPassedSet, Passes, Spends, way}
use Rattle.dutch_listing.proofs.past.choose_set.Given as goal

abbrev pub invariant-loop-cuts : goal.invariant-loop-cuts
invariant-loop-cuts g l = record {
  passes : Passes (IsPassedSet (g.C.Cuts.Pruned l.initial.cuts) l.chosen.lists l.chosen.very_next) l.initial.sets.choices.coming l.sets.choices.coming;
  keeps : (a : Arrangement) → g.C.Cuts.Pruned l.cuts a → g.C.Cuts.Pruned l.initial.cuts a;
  spends : Spends l.initial.budget l.budget;
}

abbrev pub decreases-loop-cuts : goal.decreases-loop-cuts
decreases-loop-cuts g l = way l.budget l.sets.choices.free_moves
