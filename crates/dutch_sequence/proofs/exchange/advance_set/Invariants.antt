use Rattle.std.proofs.Common.{◌≡◌, ◌+◌, ◌≤◌}
use Rattle.dutch_sequence.specs.Prelude.{IsSearchState, free_moves_from, sets_from, trials_from, Spends, way}
use Rattle.dutch_sequence.proofs.exchange.advance_set.Given as goal

abbrev pub invariant-loop-state : goal.invariant-loop-state
invariant-loop-state l = record {
  stands : IsSearchState l.sides.pool.now l.sides.k l.state;
  sets : sets_from l.sides.pool.now l.sides.k l.state ≡ sets_from l.sides.pool.now l.sides.k l.initial.state;
  steps : l.budget.used + trials_from l.sides.pool.now l.sides.k l.state ≡ l.initial.budget.used + trials_from l.sides.pool.now l.sides.k l.initial.state;
  nearer : way l.budget (free_moves_from l.sides.pool.now l.sides.k l.state) ≤ way l.initial.budget (free_moves_from l.sides.pool.now l.sides.k l.initial.state);
  spends : Spends l.initial.budget l.budget;
}

abbrev pub decreases-loop-state : goal.decreases-loop-state
decreases-loop-state l = way l.budget (free_moves_from l.sides.pool.now l.sides.k l.state)
