-- The count so far and that of those to come are at most the whole count.
use Rattle.std.proofs.Common.{◌+◌, ◌≤◌, not, drop, length, filter}
use Rattle.std.specs.List.{list_any}
use Rattle.dutch_bracket.specs.Prelude.{suits}
use Rattle.dutch_floors.proofs.lonely.lonely_second.Given as goal

abbrev pub invariant-loop-y : goal.invariant-loop-y
invariant-loop-y l = record {
  few : l.count ≤ l.y-index;
  so_far : l.count + length (filter (λ y. not (list_any (λ x. suits l.context.facts l.context.reached x y) l.rest.numbers.now)) (drop l.y-index l.pool))
      ≤ length (filter (λ y. not (list_any (λ x. suits l.context.facts l.context.reached x y) l.rest.numbers.now)) l.pool);
}
