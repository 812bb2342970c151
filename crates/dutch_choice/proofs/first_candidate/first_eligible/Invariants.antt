-- Those of the candidates to come that can be chosen are all of the shape that can be; those passed cannot.
use Rattle.std.proofs.Common.{◌≡◌, None, false, filter, length}
use Rattle.dutch_bracket.specs.Prelude.{can_be_chosen_here, candidates_in, eligible_in}
use Rattle.dutch_arrangements.specs.Prelude.{Passes, Spends}
use Rattle.dutch_choice.specs.Prelude.{ListsHere}
use Rattle.dutch_choice.proofs.first_candidate.first_eligible.Given as goal

abbrev pub decreases-loop-left : goal.decreases-loop-left
decreases-loop-left l = length l.lister.listing.coming

abbrev pub invariant-loop-left : goal.invariant-loop-left
invariant-loop-left l = record {
  same : eligible_in l.shaped ≡ filter (can_be_chosen_here l.shaped.context.now) l.lister.listing.coming;
  passed : Passes (λ a. can_be_chosen_here l.shaped.context.now a ≡ false) (candidates_in l.shaped) l.lister.listing.coming;
  shape : l.lister.listing.shape ≡ l.shaped.shape;
  lists : ListsHere l.shaped.context.now None l.lister.listing;
  spends : Spends l.initial.budget l.budget;
}
