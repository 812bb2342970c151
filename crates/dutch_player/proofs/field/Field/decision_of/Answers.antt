use Rattle.std.proofs.Common.{ap, ◌∙◌}
use Rattle.dutch_player.specs.Prelude.{Facts, seat_at, decision_between, facts_in}
use Rattle.dutch_player.proofs.field.Field.decision_of.Goals as goal

-- src/field.rt:168:5
pub returns : goal.returns
returns c =
    c.decision_between.ensures
    ∙ ap (λ high. decision_between c.self.inside.initial high (facts_in c.seat-2.result.now)) c.seat.ensures
    ∙ ap (decision_between c.self.inside.initial (seat_at c.args.self.now c.args.high)) c.seat-2.ensures
    ∙ ap (λ (facts : Facts). decision_between facts.initial (seat_at c.args.self.now c.args.high) (seat_at c.args.self.now c.args.low)) c.self.view_is
