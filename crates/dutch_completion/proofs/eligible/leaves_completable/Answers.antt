-- The players who are tested are those left over and all lower ones.
use Rattle.std.proofs.Common.{◌≡◌, ◌++◌, map, ap, ◌∙◌, subst}
use Rattle.dutch_bracket.specs.Prelude.{Reached, seat_of, completable, Decides}
use Rattle.dutch_completion.proofs.eligible.leaves_completable.Goals as goal

pub returns-clause-answer : goal.returns-clause-answer
returns-clause-answer c =
    let now = c.can_complete.new.budget.used ≡ c.can_complete.new.budget.limit in
    let all = c.deref.ensures.0 ∙ c.fill_with_lower.ensures
    ∙ ap (λ (s : Reached). map (seat_of s.seats) c.down.result.now ++ c.lower.result.now) c.reached.ensures.value
    ∙ ap (λ lower. map (seat_of c.args.context.now.reached.seats) c.down.result.now ++ lower) c.lower.ensures.value ∙ ap (λ numbers. map (seat_of c.args.context.now.reached.seats) numbers ++ c.args.context.now.lower) c.down.ensures in
    subst (λ seats. Decides c.can_complete.result (completable c.args.context.now.facts seats) now) all
    (subst (λ facts. Decides c.can_complete.result (completable facts c.deref.result.now) now) c.field.ensures c.can_complete.ensures.answer)
