use Rattle.trf16_report.proofs.ReportLemmas.{known-lookup}
use Rattle.trf16_report.proofs.draft.Draft.knows.Goals as goal

pub returns : goal.returns
returns c = rw (c.contains_key.ensures, ← c.self.view_is) (known-lookup c.self.inside.players.entries c.args.start c.self.invariant.0)
