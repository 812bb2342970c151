use Rattle.dutch_arrangements.specs.Prelude.{Arrangement, IsPassedTuple, Passes, Spends, way}
use Rattle.dutch_listing.proofs.past.choose_tuple.Given as goal

abbrev pub invariant-loop-cuts : goal.invariant-loop-cuts
invariant-loop-cuts g l = record {
  passes : Passes (IsPassedTuple (g.C.Cuts.Pruned l.fn.cuts) l.chosen.lists l.chosen.very_next) l.initial.tuples.choices.coming l.tuples.choices.coming;
  ready : g.C.Cuts.Ready l.cuts;
  keeps : (a : Arrangement) → g.C.Cuts.Pruned l.cuts a → g.C.Cuts.Pruned l.fn.cuts a;
  spends : Spends l.initial.budget l.budget;
}

abbrev pub decreases-loop-cuts : goal.decreases-loop-cuts
decreases-loop-cuts g l = way l.budget l.tuples.choices.free_moves
