-- In the penultimate bracket the answer is that about those left over and all lower players.
use Rattle.std.proofs.Common.{◌≡◌, ap, ◌∙◌}
use Rattle.dutch_bracket.specs.Prelude.{Reached, is_penultimate}
use Rattle.dutch_completion.proofs.TellLemmas.{can_be_chosen_told}
use Rattle.dutch_completion.proofs.eligible.can_be_chosen.Goals as goal

pub returns-clause-answer : goal.returns-clause-answer
returns-clause-answer c =
    let now = c.leaves_completable.new.budget.used ≡ c.leaves_completable.new.budget.limit in
    can_be_chosen_told c.args.context.now.facts c.args.context.now.reached c.args.context.now.lower c.args.candidate.now.down c.args.candidate.now.lists
    c.leaves_completable.result now (c.if-not-is_penultimate.ensures ∙ ap is_penultimate c.kind.ensures ∙ ap (λ (s : Reached). is_penultimate s.kind) c.reached.ensures.value) c.requires.left c.leaves_completable.ensures.answer
