use Rattle.std.proofs.Common.{ap, ◌∙◌, Option, ℕ, is_some}
use Rattle.trf16_report.proofs.NoteLemmas.{other_points-first}
use Rattle.trf16_report.proofs.report.Report.has_other_points.Goals as goal

pub returns : goal.returns
returns c = c.is_some.ensures ∙ ap (λ (o : Option ℕ). is_some o) c.first_line.ensures ∙ other_points-first c.args.self.now
