-- The answer of a search that ended is what the test of the seats tells.
use Rattle.std.proofs.Common.{length, Bool, true, Result, subst}
use Rattle.dutch_sequence.specs.declared.steps.Stopped.{Stopped}
use Rattle.dutch_bracket.specs.Prelude.{MatchAnswer, IsStopped, most, can_complete, seats_meet, seats_may_be_left, completable, Decides}
use Rattle.dutch_bracket.specs.Completion.{Completable}
use Rattle.dutch_completion.proofs.TellLemmas.{told}
use Rattle.dutch_completion.proofs.eligible.decided_in_few_steps.Goals as goal

pub returns-in-Ok-clause-answer : goal.returns-in-Ok-clause-answer
unfolding completable
returns-in-Ok-clause-answer c =
    let meets = seats_meet c.args.field.now in
    let may_be_left = seats_may_be_left c.args.field.now in
    let players = c.args.players.now in
    let stopped = IsStopped (most (length players) true) c.at_most-few.result c.completes.new.budget in
    subst (λ (d : Result Bool Stopped). Decides d (can_complete meets may_be_left players) (Unit {0})) c.in-Ok.is
    (told meets may_be_left players c.completes.result c.decided-answer.result stopped (Unit {0}) (λ _. tt) c.decided-answer.ensures
    (subst (λ f. MatchAnswer c.completes.result (Completable (seats_meet f) (seats_may_be_left f) players)
    (¬ Completable (seats_meet f) (seats_may_be_left f) players) stopped) c.seats.ensures.facts c.completes.ensures.answer))
