-- What the turns before skipped is pruned too.
use Rattle.std.proofs.Common.{◌≡◌, ◌∷◌, true, ap, subst, ◌∙◌}
use Rattle.dutch_arrangements.specs.Prelude.{Frame, down}
use Rattle.dutch_sequence.proofs.Spending.{spends-more}
use Rattle.dutch_passes.specs.Prelude.{PassesPruned, is_pruned_by}
use Rattle.dutch_search.proofs.PassesTwice.{passes_twice}
use Rattle.dutch_search.proofs.guide.BothFloorsGuide.draw.Goals as goal

pub returns-in-Found-clause-answer : goal.returns-in-Found-clause-answer
returns-in-Found-clause-answer c = (
  passes_twice (λ a. is_pruned_by c.args.so_far a ≡ true) c.args.lister.now.listing.coming c.loop-self.lister.listing.coming _ c.loop-self.invariant.passed
      (subst (λ so_far. PassesPruned so_far c.loop-self.lister.listing.coming (c.draw_once-step.new.lister.drawn.lists ∷ c.draw_once-step.new.lister.listing.coming)) c.skipper.ensures c.in-Found.ensures.answer.0),
  c.in-Found.ensures.answer.1 ∙ ap (λ (frame : Frame). down frame c.draw_once-step.new.lister.drawn.lists) c.loop-self.invariant.frame,
)

pub loop-self-preserved : goal.loop-self-preserved
loop-self-preserved c =
    let before = c.loop-self.invariant in
    record {
      passed = passes_twice (λ a. is_pruned_by c.args.so_far a ≡ true) c.args.lister.now.listing.coming c.loop-self.lister.listing.coming _ before.passed
          (subst (λ so_far. PassesPruned so_far c.loop-self.lister.listing.coming c.draw_once-step.new.lister.listing.coming) c.skipper.ensures c.in-Undecided.ensures.answer.0);
      frame = c.draw_once-step.ensures.frame ∙ before.frame;
      shape = c.draw_once-step.ensures.shape ∙ before.shape;
      rule = c.draw_once-step.ensures.rule ∙ before.rule;
      context = c.go_on.ensures.context ∙ before.context;
      of_shape = c.go_on.ensures.shape ∙ before.of_shape;
      counts = c.go_on.ensures.counts ∙ before.counts;
      weights = c.go_on.ensures.weights ∙ before.weights;
      spends = spends-more before.spends (spends-more c.count.ensures.spends c.go_on.ensures.spends);
    }
