-- Some candidate grants the wish where some of those to come does.
use Rattle.std.proofs.Common.{◌≡◌, Some, length}
use Rattle.std.specs.List.{list_any}
use Rattle.dutch_arrangements.specs.Prelude.{Spends}
use Rattle.dutch_bracket.specs.Prelude.{candidates_in}
use Rattle.dutch_candidates.specs.Wishes.{grants}
use Rattle.dutch_choice.specs.Prelude.{ListsHere}
use Rattle.dutch_rounds.proofs.instead.is_granted_by.Given as goal

abbrev pub decreases-loop-candidate : goal.decreases-loop-candidate
decreases-loop-candidate l = length l.candidates.coming

abbrev pub invariant-loop-candidate : goal.invariant-loop-candidate
invariant-loop-candidate l = record {
  same : list_any (grants l.wished.wish) (candidates_in l.wished.shaped) ≡ list_any (grants l.wished.wish) l.candidates.coming;
  lists : ListsHere l.wished.shaped.context.now (Some l.wished.wish) l.candidates;
  shape : l.candidates.shape ≡ l.wished.shaped.shape;
  spends : Spends l.initial.budget l.budget;
}
