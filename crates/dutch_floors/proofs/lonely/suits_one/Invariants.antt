-- None of those passed so far suits.
use Rattle.std.proofs.Common.{◌≡◌, ◌≤◌, drop, false, length}
use Rattle.std.specs.List.{list_any}
use Rattle.dutch_bracket.specs.Prelude.{suits}
use Rattle.dutch_floors.proofs.lonely.suits_one.Given as goal

abbrev pub invariant-loop-left : goal.invariant-loop-left
invariant-loop-left l = record {
  within : l.left ≤ length l.numbers;
  none : list_any (λ x. suits l.context.facts l.context.reached x l.y) (drop l.left l.numbers) ≡ false;
}

abbrev pub decreases-loop-left : goal.decreases-loop-left
decreases-loop-left l = l.left
