use Rattle.std.proofs.Common.{◌≡◌, ◌++◌, filter, length}
use Rattle.dutch_arrangements.specs.Prelude.{Arrangement, may_leave, only_if, Passes, Spends}
use Rattle.dutch_listing.specs.Listed.{listed}
use Rattle.dutch_listing.proofs.candidates.draw_legal.Given as goal

abbrev pub invariant-loop-candidate : goal.invariant-loop-candidate
invariant-loop-candidate g l = record {
  passes : Passes (g.C.Cuts.Pruned l.initial.tests.cuts.now)
      (filter (may_leave (g.R.Rule.may_be_left l.initial.tests.rule.now) l.initial.tests.bracket.now) (listed (only_if l.initial.drawing.is_kept (g.L.Arranges.latest l.initial.drawing.level)) ++ g.L.Arranges.coming l.initial.drawing.level))
      (filter (may_leave (g.R.Rule.may_be_left l.initial.tests.rule.now) l.initial.tests.bracket.now) (listed (only_if l.drawing.is_kept (g.L.Arranges.latest l.drawing.level)) ++ g.L.Arranges.coming l.drawing.level));
  bracket : l.tests.bracket.now ≡ l.initial.tests.bracket.now;
  rule : l.tests.rule.now ≡ l.initial.tests.rule.now;
  keeps : (a : Arrangement) → g.C.Cuts.Pruned l.tests.cuts.now a → g.C.Cuts.Pruned l.initial.tests.cuts.now a;
  spends : Spends l.initial.budget l.budget;
}

abbrev pub decreases-loop-candidate : goal.decreases-loop-candidate
decreases-loop-candidate g l = length (listed (only_if l.drawing.is_kept (g.L.Arranges.latest l.drawing.level)) ++ g.L.Arranges.coming l.drawing.level)
