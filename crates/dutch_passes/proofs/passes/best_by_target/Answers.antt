-- Where a pass with a target ends with a candidate, it is the best of all.
use Rattle.std.proofs.Common.{Result, Ok, Err}
use Rattle.std.specs.Result.{MatchResult}
use Rattle.dutch_sequence.specs.declared.steps.Stopped.{Stopped}
use Rattle.dutch_passes.specs.Prelude.{target_in}
use Rattle.dutch_passes.proofs.TargetLemmas.{pass_ends}
use Rattle.dutch_passes.proofs.passes.best_by_target.Goals as goal

-- what holds at the end of a pass holds if it was not stopped
at_the_end : {T : Type 0} (Says Other Ends : Type 0) (found : Result T Stopped) → (Says → Other) → MatchResult found (λ _. Says) (λ _. Ends) → MatchResult found (λ _. Other) (λ _. Ends)
at_the_end Says Other Ends (Ok done) then says = then says
at_the_end Says Other Ends (Err stop) then says = says

pub returns-clause-answer : goal.returns-clause-answer
returns-clause-answer g c =
    let pass = c.args.pass.now in
    at_the_end _ _ _ c.best_near.result (pass_ends pass.shaped.context.now pass.wish (target_in pass.target) pass.shaped.shape c.best_near.new.search.state.value.incumbent) c.best_near.ensures.answer
