use Rattle.std.proofs.Common.{sym}
use Rattle.report_notes.specs.Rounds.{report_round_notes}
use Rattle.report_notes.proofs.RoundLemmas.{one_further}
use Rattle.report_notes.proofs.rounds.RoundsLeft.behind_round.Goals as goal

pub returns-clause-same : goal.returns-clause-same
returns-clause-same c told none =
    let sheet = c.args.report.now in
    let further = one_further (report_round_notes sheet) sheet c.args.self.round c.requires.within in
    rw (told, none, c.has_no_game.ensures, c.several_byes.ensures) (sym further)
