use Rattle.std.proofs.Common.{◌≡◌, ◌+◌, ◌≤◌}
use Rattle.dutch_sequence.specs.Prelude.{Spends, ahead, hits, trials, lower, lowest, Stands, free_moves, way}
use Rattle.dutch_sequence.proofs.search.advance.Given as goal

abbrev pub invariant-loop-asks : goal.invariant-loop-asks
invariant-loop-asks g l = record {
  stands : Stands (g.T.Tree.plan l.tree) l.descent.path;
  same : hits (ahead (g.T.Tree.plan l.tree) l.descent.path l.descent.number) ≡ hits (ahead (g.T.Tree.plan l.tree) l.initial.descent.path l.initial.descent.number);
  trials : l.budget.used + trials (ahead (g.T.Tree.plan l.tree) l.descent.path l.descent.number) ≡ l.initial.budget.used + trials (ahead (g.T.Tree.plan l.tree) l.initial.descent.path l.initial.descent.number);
  beyond : lower l.descent.beyond (lowest (ahead (g.T.Tree.plan l.tree) l.descent.path l.descent.number)) ≡ lower l.initial.descent.beyond (lowest (ahead (g.T.Tree.plan l.tree) l.initial.descent.path l.initial.descent.number));
  nearer : way l.budget (free_moves l.descent) ≤ way l.initial.budget (free_moves l.initial.descent);
  spends : Spends l.initial.budget l.budget;
}

abbrev pub decreases-loop-asks : goal.decreases-loop-asks
decreases-loop-asks g l = way l.budget (free_moves l.descent)
