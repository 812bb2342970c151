-- What is left to compare tells whether all are the same.
use Rattle.std.proofs.Common.{◌≡◌, ◌+◌, ◌-◌, ◌≤◌, map}
use Rattle.dutch_arrangements.specs.Prelude.{left_of, is_same, numbers_from}
use Rattle.dutch_floors.specs.Outlooks.{leaves_first}
use Rattle.dutch_bracket.specs.Prelude.{seat_of, score_at}
use Rattle.dutch_floors.proofs.outlook.leaves_first.Given as goal

abbrev pub invariant-loop-above : goal.invariant-loop-above
invariant-loop-above l = record {
  same : is_same (map (λ i. score_at l.shaped.context.now.facts (seat_of l.shaped.context.now.reached.seats i)) (left_of (numbers_from (l.above + 1) (l.shaped.context.now.reached.mdps - l.above)) l.s1))
      (map (λ i. score_at l.shaped.context.now.facts (seat_of l.shaped.context.now.reached.seats i)) (numbers_from (l.passed + 1) (l.shaped.context.now.reached.mdps - l.passed)))
      ≡ leaves_first l.shaped.context.now.facts l.shaped.context.now.reached l.shaped.shape l.s1;
  within : l.passed ≤ l.shaped.context.now.reached.mdps;
}
