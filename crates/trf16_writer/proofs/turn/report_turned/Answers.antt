use Rattle.std.proofs.Common.{ap, ◌∙◌}
use Rattle.trf16_report.specs.Prelude.{rounds_played, starts_of}
use Rattle.trf16_writer.specs.Steps.{entry_turned}
use Rattle.trf16_writer.proofs.RoundLemmas.{keeps-start, starts-with}
use Rattle.trf16_report.proofs.ReportLemmas.{starts-entries}
use Rattle.trf16_writer.proofs.turn.report_turned.Goals as goal

pub with_players-requires-clause-same : goal.with_players-requires-clause-same
with_players-requires-clause-same c =
    let sheet = c.args.report.now in
    starts-entries c.in_ok-players.players.entries ∙ ap starts_of c.in_ok-players.ensures.turned
    ∙ starts-with (entry_turned c.args.turn sheet.bye (rounds_played sheet)) (keeps-start c.args.turn sheet.bye (rounds_played sheet)) sheet.players
