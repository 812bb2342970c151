use Rattle.trf16_report.proofs.ReportLemmas.{entries-values}
use Rattle.trf16_report.proofs.report.Report.players.Goals as goal

pub returns-clause-players : goal.returns-clause-players
returns-clause-players c = rw (c.values.ensures.rest, ← c.self.view_is) (entries-values c.self.inside.players.entries)
