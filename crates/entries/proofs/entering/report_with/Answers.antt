use Rattle.std.proofs.Common.{ap, ◌∙◌}
use Rattle.trf16_report.specs.Prelude.{rounds_played, starts_of}
use Rattle.trf16_report.proofs.ReportLemmas.{starts-entries}
use Rattle.trf16_writer.proofs.RoundLemmas.{starts-with}
use Rattle.entries.specs.Steps.{player_changed}
use Rattle.entries.proofs.EntryLemmas.{keeps-start}
use Rattle.entries.proofs.entering.report_with.Goals as goal

pub with_players-requires-clause-same : goal.with_players-requires-clause-same
with_players-requires-clause-same c =
    let sheet = c.args.report.now in
    starts-entries c.in_ok-players.players.entries ∙ ap starts_of c.in_ok-players.ensures.changed
    ∙ starts-with (player_changed c.args.change sheet.bye (rounds_played sheet)) (keeps-start c.args.change sheet.bye (rounds_played sheet)) sheet.players
