-- What is chosen of a shape is what is chosen of the incumbent and those to come.
use Rattle.std.proofs.Common.{length}
use Rattle.dutch_arrangements.specs.Prelude.{Spends}
use Rattle.dutch_passes.specs.Prelude.{ListsFor, LooksFor, LooksThrough}
use Rattle.dutch_passes.proofs.passes.go_on.Given as goal

abbrev pub decreases-loop-state : goal.decreases-loop-state
decreases-loop-state g l = length l.lister.listing.coming

abbrev pub invariant-loop-state : goal.invariant-loop-state
invariant-loop-state g l = record {
  looks : LooksThrough l.pass l.state.incumbent l.lister.listing;
  lists : ListsFor l.pass l.lister.listing;
  look : LooksFor l.pass l.state.look;
  guide : g.G.Guide.knows l.state.guide.value l.pass.shaped.context.now l.pass.shaped.shape l.pass.wish;
  spends : Spends l.initial.budget l.budget;
}
