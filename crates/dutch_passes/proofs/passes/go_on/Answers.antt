-- One candidate more, or the end of all candidates, tells what a pass chooses of the shape.
use Rattle.std.proofs.Common.{[], inl, inr, refl, sym, ap, ◌∙◌, subst}
use Rattle.dutch_arrangements.specs.Prelude.{Frame, down}
use Rattle.dutch_sequence.proofs.Spending.{spends-more}
use Rattle.dutch_bracket.proofs.LegalPairs.{legal_of}
use Rattle.dutch_passes.specs.Prelude.{target_in, near_of}
use Rattle.dutch_passes.proofs.TargetLemmas.{best_last, handed, skipped_same}
use Rattle.dutch_choice.proofs.Listings.{lists_stay}
use Rattle.dutch_passes.proofs.SkippedLemmas.{left_was_there}
use Rattle.dutch_passes.proofs.passes.go_on.Goals as goal

pub consider-requires-clause-candidate : goal.consider-requires-clause-candidate
consider-requires-clause-candidate g c =
    let pass = c.args.pass.now in
    let found = rw c.if-branch.true at c.in_ok-draw.ensures.answer in
    let lists = c.draw.new.lister.drawn.lists in
    let m = c.loop-state.invariant.looks.inside lists (left_was_there _ lists c.loop-state.lister.listing.coming _ found.0 (inl refl)) in
    record {
      lists = (pass.shaped.shape, (legal_of pass.shaped.context.now.facts pass.shaped.context.now.reached pass.shaped.shape lists m).arranged);
      down = found.1 ∙ ap (λ (frame : Frame). down frame lists) c.loop-state.invariant.lists.frame;
    }

pub loop-state-preserved : goal.loop-state-preserved
loop-state-preserved g c =
    let pass = c.args.pass.now in
    let found = rw c.if-branch.true at c.in_ok-draw.ensures.answer in
    let incumbent = c.loop-state.state.incumbent in
    let before = c.loop-state.lister.listing in
    record {
      looks = record {
        chosen = c.loop-state.invariant.looks.chosen ∙ skipped_same pass.shaped.context.now pass.wish (target_in pass.target) incumbent before.coming _ c.loop-state.invariant.looks.incumbent_is found.0
            ∙ sym (c.in_ok-consider.ensures.answer c.draw.new.lister.listing.coming);
        incumbent_is = c.consider.ensures.incumbent;
        inside = λ lists m. c.loop-state.invariant.looks.inside lists (left_was_there _ lists before.coming _ found.0 (inr m));
        shape_is = c.in_ok-draw.ensures.shape ∙ c.loop-state.invariant.looks.shape_is;
      };
      lists = lists_stay pass.shaped.context.now pass.wish before c.loop-state.invariant.lists c.draw.new.lister.listing c.in_ok-draw.ensures.frame c.in_ok-draw.ensures.rule;
      spends = spends-more c.loop-state.invariant.spends (spends-more c.in_ok-draw.ensures.spends c.consider.ensures.spends);
      look = c.consider.ensures.look;
      guide = subst (λ guide. g.G.Guide.knows guide pass.shaped.context.now pass.shaped.shape pass.wish) (sym (ap (λ guide. guide.value) c.consider.ensures.guide)) c.in_ok-draw.ensures.known;
    }

pub returns-clause-answer : goal.returns-clause-answer
returns-clause-answer g c =
    let pass = c.args.pass.now in
    let ended = rw c.if-branch.false at c.in_ok-draw.ensures.answer in
    let incumbent = c.loop-state.state.incumbent in
    handed pass.shaped.context.now incumbent (near_of pass) c.loop-state.invariant.looks.incumbent_is
    (best_last pass.shaped.context.now pass.wish (target_in pass.target) incumbent (near_of pass)
    (c.loop-state.invariant.looks.chosen ∙ skipped_same pass.shaped.context.now pass.wish (target_in pass.target) incumbent c.loop-state.lister.listing.coming [] c.loop-state.invariant.looks.incumbent_is ended))
