-- A candidate that does not lose and can be chosen becomes the incumbent, and the same one is chosen in the end.
use Rattle.std.proofs.Common.{refl, sym, ap, ◌∙◌}
use Rattle.std.proofs.lemmas.Bool.{and_from}
use Rattle.dutch_choice.specs.declared.finder.Best.{Best}
use Rattle.dutch_passes.specs.Prelude.{target_in, loses}
use Rattle.dutch_passes.specs.Passes.{best_of_pass}
use Rattle.dutch_bracket.specs.Prelude.{quality_in}
use Rattle.dutch_passes.proofs.TargetLemmas.{winner_kept}
use Rattle.dutch_passes.proofs.passes.consider.Goals as goal

pub returns-then-branch-clause-answer : goal.returns-then-branch-clause-answer
returns-then-branch-clause-answer g c = λ coming.
    let pass = c.args.pass.now in
    let incumbent = c.args.state.now.incumbent in
    let quality = c.deref_mut-work.result.now.room.quality in
    let best : Best = record { candidate = c.args.candidate.now; quality = quality } in
    let told = ap (λ w. quality_in w.room.quality) c.deref_mut-work.ensures.value ∙ c.in_ok-judge_candidate.ensures.answer in
    ap (λ k. best_of_pass pass k coming) c.keep.ensures
    ∙ winner_kept pass.shaped.context.now pass.wish (target_in pass.target) incumbent best c.args.candidate.now.lists coming c.requires.incumbent refl
    told (ap (λ k. loses (target_in pass.target) k (quality_in quality)) (sym c.judge_candidate.ensures.incumbent) ∙ sym c.if-loses.ensures)
    (and_from _ _ (sym c.in_ok-can_be_chosen.ensures.answer ∙ c.if-branch.true) (sym c.if-not-is_wished.ensures))
