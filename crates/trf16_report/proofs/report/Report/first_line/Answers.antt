use Rattle.std.proofs.Common.{ap, ◌∙◌, ◌∷◌, []}
use Rattle.trf16_report.specs.Prelude.{first_of}
use Rattle.trf16_report.proofs.report.Report.first_line.Goals as goal

pub returns : goal.returns
returns c = c.first.ensures ∙ c.self.invariant.5.first c.args.kind ∙ ap (first_of (c.args.kind ∷ [])) c.self.view_is
