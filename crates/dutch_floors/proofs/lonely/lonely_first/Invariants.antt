-- The count so far and that of those to come are at most the whole count.
use Rattle.std.proofs.Common.{◌+◌, ◌≤◌, not, drop, length, filter}
use Rattle.std.specs.List.{list_any}
use Rattle.dutch_bracket.specs.Prelude.{suits}
use Rattle.dutch_floors.proofs.lonely.lonely_first.Given as goal

abbrev pub invariant-loop-x : goal.invariant-loop-x
invariant-loop-x l = record {
  few : l.count ≤ l.x-index;
  so_far : l.count + length (filter (λ x. not (list_any (suits l.context.facts l.context.reached x) l.pool.numbers.now)) (drop l.x-index l.rest))
      ≤ length (filter (λ x. not (list_any (suits l.context.facts l.context.reached x) l.pool.numbers.now)) l.rest);
}
