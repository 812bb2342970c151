-- What stands against it is told of the round as it is told.
use Rattle.std.proofs.Common.{◌∙◌, sym, ap}
use Rattle.command_line.specs.InsteadAnswers.{PairedRound, decided_in, obstacle_of}
use Rattle.command_line.proofs.InsteadLemmas.{against_told}
use Rattle.command_line.proofs.instead.of_meeting.Goals as goal

pub returns-in-Some : goal.returns-in-Some
returns-in-Some g c =
    against_told c.round.inside.telling.now c.args.round.now.telling c.args.asking.steps c.args.asking.asked.player c.args.asking.asked.number
    (obstacle_of c.args.round.now c.args.meeting.player c.args.meeting.rival) c.in-Some.obstacle
    (decided_in c.args.round.now.stages c.args.meeting.player c.args.meeting.rival) c.stands_against.result
    (ap (λ (p : PairedRound). p.telling) c.round.view_is) (sym c.obstacle_of.ensures ∙ c.in-Some.is) c.stands_against.ensures
