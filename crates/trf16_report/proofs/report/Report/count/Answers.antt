use Rattle.std.proofs.Common.{nat_eq, subst, ◌∙◌}
use Rattle.std.specs.List.{IsDistinct}
use Rattle.trf16_report.specs.Prelude.{Sheet, starts_of}
use Rattle.trf16_report.proofs.ReportLemmas.{starts-entries}
use Rattle.trf16_report.proofs.report.Report.count.Goals as goal

pub returns-clause-own : goal.returns-clause-own
returns-clause-own c =
    subst (λ (sheet : Sheet). IsDistinct nat_eq (starts_of sheet.players)) c.self.view_is
    (subst (IsDistinct nat_eq) (c.self.invariant.0 ∙ starts-entries c.self.inside.players.entries) c.len.ensures.unique)
