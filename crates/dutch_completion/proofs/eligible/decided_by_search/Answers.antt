-- The answer about a list of pairs is what the test of the seats tells.
use Rattle.std.proofs.Common.{◌≡◌, length, true, subst}
use Rattle.dutch_bracket.specs.Prelude.{MatchAnswer, IsStopped, most, seats_meet, seats_may_be_left, completable}
use Rattle.dutch_bracket.specs.Completion.{Completable}
use Rattle.dutch_completion.proofs.TellLemmas.{told}
use Rattle.dutch_completion.proofs.eligible.decided_by_search.Goals as goal

pub returns-clause-answer : goal.returns-clause-answer
unfolding completable
returns-clause-answer c =
    let facts = c.args.field.now in
    let players = c.args.players.now in
    let stopped = IsStopped (most (length players) true) c.args.budget.now c.completes.new.budget in
    let now = c.completes.new.budget.used ≡ c.completes.new.budget.limit in
    told (seats_meet facts) (seats_may_be_left facts) players c.completes.result c.decided.result stopped now (λ s. s.reached) c.decided.ensures
    (subst (λ f. MatchAnswer c.completes.result (Completable (seats_meet f) (seats_may_be_left f) players)
    (¬ Completable (seats_meet f) (seats_may_be_left f) players) stopped) c.seats.ensures.facts c.completes.ensures.answer)
