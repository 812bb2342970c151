use Rattle.std.proofs.Common.{◌∙◌, ap, sym, arith, refl, filter, not, ◌||◌, ◌++◌, ◌∷◌, length}
use Rattle.dutch_arrangements.specs.Prelude.{Frame, down, leaves_one, may_leave, only_if}
use Rattle.dutch_listing.specs.Listed.{listed}
use Rattle.dutch_listing.proofs.Passing.{passes-each}
use Rattle.dutch_sequence.proofs.Skipping.{passes-none, passes-more, passes-filter, passes-fewer, filter-keeps, filter-drops, drawn, drawn-stopped}
use Rattle.dutch_sequence.proofs.Spending.{spends-none, spends-more}
use Rattle.dutch_listing.proofs.candidates.draw_legal.Goals as goal

pub loop-candidate-init : goal.loop-candidate-init
loop-candidate-init g c = record {
  passes = passes-none (g.C.Cuts.Pruned c.args.tests.now.cuts.now) _ _ refl;
  bracket = refl;
  rule = refl;
  keeps = λ a pruned. pruned;
  spends = spends-none _;
}

pub returns-then-not-branch-clause-answer : goal.returns-then-not-branch-clause-answer
returns-then-not-branch-clause-answer g c =
    let Pruned = g.C.Cuts.Pruned c.args.tests.now.cuts.now in
    let may = may_leave (g.R.Rule.may_be_left c.args.tests.now.rule.now) c.args.tests.now.bracket.now in
    passes-more Pruned _ _ _ c.loop-candidate.invariant.passes (passes-filter Pruned may _ _ (passes-each _ Pruned _ _ c.loop-candidate.invariant.keeps (drawn _ _ _ c.if-not-branch.true c.in_ok-draw_listed.ensures.answer)))

pub returns-in_err-draw_listed-clause-answer : goal.returns-in_err-draw_listed-clause-answer
returns-in_err-draw_listed-clause-answer g c =
    let Pruned = g.C.Cuts.Pruned c.args.tests.now.cuts.now in
    let may = may_leave (g.R.Rule.may_be_left c.args.tests.now.rule.now) c.args.tests.now.bracket.now in
    let kept = passes-none Pruned _ _ (ap (λ kept. filter may (listed (only_if kept (g.L.Arranges.latest c.draw_listed.new.drawing.level)) ++ g.L.Arranges.coming c.draw_listed.new.drawing.level)) (sym c.in_err-draw_listed.ensures.taken)) in
    let passed = passes-more Pruned _ _ _ (passes-filter Pruned may _ _ (passes-each _ Pruned _ _ c.loop-candidate.invariant.keeps c.in_err-draw_listed.ensures.answer.0)) kept in
    drawn-stopped _ _ _ _ c.from_residual.ensures.0 (passes-more Pruned _ _ _ c.loop-candidate.invariant.passes passed, c.in_err-draw_listed.ensures.answer.1)

pub returns-in-Ok-true-clause-answer : goal.returns-in-Ok-true-clause-answer
unfolding may_leave
returns-in-Ok-true-clause-answer g c =
    let Pruned = g.C.Cuts.Pruned c.args.tests.now.cuts.now in
    let may_be_left = g.R.Rule.may_be_left c.args.tests.now.rule.now in
    let frame = c.args.tests.now.bracket.now in
    let may = may_leave may_be_left frame in
    let tests = c.loop-candidate.tests in
    let left = c.draw_listed.new.lists in
    let asked = ap (λ last. not last || leaves_one (g.R.Rule.may_be_left tests.rule.now) c.deref.result.now) c.is_last.ensures
    ∙ ap (λ over. not tests.bracket.now.last || leaves_one (g.R.Rule.may_be_left tests.rule.now) over) (c.deref.ensures.0 ∙ c.put_left_over.ensures)
    ∙ ap (λ rule. not tests.bracket.now.last || leaves_one (g.R.Rule.may_be_left rule) (down tests.bracket.now left)) c.loop-candidate.invariant.rule
    ∙ ap (λ (frame : Frame). not frame.last || leaves_one may_be_left (down frame left)) c.loop-candidate.invariant.bracket in (
      passes-more Pruned _ _ _ c.loop-candidate.invariant.passes
          (passes-more Pruned _ _ _ (passes-filter Pruned may _ _ (passes-each _ Pruned _ _ c.loop-candidate.invariant.keeps (drawn _ _ _ c.if-not-branch.false c.in_ok-draw_listed.ensures.answer).0))
          (passes-none Pruned _ _
          (filter-keeps may c.draw_listed.new.lists (g.L.Arranges.coming c.draw_listed.new.drawing.level) (sym asked ∙ drawn _ _ _ c.in-Ok-true.field-0-test c.in-Ok-true.ensures.answer)
          ∙ ap (λ kept. c.draw_listed.new.lists ∷ filter may (listed (only_if kept (g.L.Arranges.latest c.draw_listed.new.drawing.level)) ++ g.L.Arranges.coming c.draw_listed.new.drawing.level)) (sym c.in_ok-draw_listed.ensures.taken)))),
      c.put_left_over.ensures ∙ ap (λ frame. down frame left) c.loop-candidate.invariant.bracket,
    )

pub returns-in-Err-clause-answer : goal.returns-in-Err-clause-answer
returns-in-Err-clause-answer g c =
    let Pruned = g.C.Cuts.Pruned c.args.tests.now.cuts.now in
    let may = may_leave (g.R.Rule.may_be_left c.args.tests.now.rule.now) c.args.tests.now.bracket.now in (
      passes-more Pruned _ _ _ c.loop-candidate.invariant.passes
          (passes-more Pruned _ _ _ (passes-filter Pruned may _ _ (passes-each _ Pruned _ _ c.loop-candidate.invariant.keeps (drawn _ _ _ c.if-not-branch.false c.in_ok-draw_listed.ensures.answer).0))
          (passes-none Pruned _ _ (ap (λ kept. filter may (kept ∷ g.L.Arranges.coming c.draw_listed.new.drawing.level)) (sym (drawn _ _ _ c.if-not-branch.false c.in_ok-draw_listed.ensures.answer).1)))),
      c.in-Err.ensures.answer,
    )

pub loop-candidate-preserved : goal.loop-candidate-preserved
unfolding may_leave
loop-candidate-preserved g c =
    let Pruned = g.C.Cuts.Pruned c.args.tests.now.cuts.now in
    let may_be_left = g.R.Rule.may_be_left c.args.tests.now.rule.now in
    let frame = c.args.tests.now.bracket.now in
    let may = may_leave may_be_left frame in
    let tests = c.loop-candidate.tests in
    let left = c.draw_listed.new.lists in
    let asked = ap (λ last. not last || leaves_one (g.R.Rule.may_be_left tests.rule.now) c.deref.result.now) c.is_last.ensures
    ∙ ap (λ over. not tests.bracket.now.last || leaves_one (g.R.Rule.may_be_left tests.rule.now) over) (c.deref.ensures.0 ∙ c.put_left_over.ensures)
    ∙ ap (λ rule. not tests.bracket.now.last || leaves_one (g.R.Rule.may_be_left rule) (down tests.bracket.now left)) c.loop-candidate.invariant.rule
    ∙ ap (λ (frame : Frame). not frame.last || leaves_one may_be_left (down frame left)) c.loop-candidate.invariant.bracket in
    record {
      passes = passes-more Pruned _ _ _ c.loop-candidate.invariant.passes
          (passes-more Pruned _ _ _ (passes-filter Pruned may _ _ (passes-each _ Pruned _ _ c.loop-candidate.invariant.keeps (drawn _ _ _ c.if-not-branch.false c.in_ok-draw_listed.ensures.answer).0))
          (passes-none Pruned _ _
          (filter-drops may c.draw_listed.new.lists (g.L.Arranges.coming c.draw_listed.new.drawing.level) (sym asked ∙ drawn _ _ _ c.in-Ok-false.field-0-test c.in-Ok-false.ensures.answer)
          ∙ ap (λ kept. filter may (listed (only_if kept (g.L.Arranges.latest c.draw_listed.new.drawing.level)) ++ g.L.Arranges.coming c.draw_listed.new.drawing.level)) (sym c.in_ok-draw_listed.ensures.taken))));
      bracket = c.loop-candidate.invariant.bracket;
      rule = c.loop-candidate.invariant.rule;
      keeps = λ a pruned. c.loop-candidate.invariant.keeps a (c.draw_listed.ensures.keeps a pruned);
      spends = spends-more (spends-more c.loop-candidate.invariant.spends c.in_ok-draw_listed.ensures.spends) c.ask_leave.ensures.spends;
    }

pub loop-candidate-smaller : goal.loop-candidate-smaller
loop-candidate-smaller g c =
    omega (arith, passes-fewer _ _ _ (drawn _ _ _ c.if-not-branch.false c.in_ok-draw_listed.ensures.answer).0, ap (λ kept. length (listed (only_if kept (g.L.Arranges.latest c.draw_listed.new.drawing.level)) ++ g.L.Arranges.coming c.draw_listed.new.drawing.level)) c.in_ok-draw_listed.ensures.taken)
