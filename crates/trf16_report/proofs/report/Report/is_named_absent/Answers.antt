use Rattle.std.proofs.Common.{ap, ◌∙◌}
use Rattle.trf16_report.specs.Prelude.{is_named_absent}
use Rattle.trf16_report.proofs.report.Report.is_named_absent.Goals as goal

pub returns : goal.returns
returns c = c.has.ensures ∙ c.self.invariant.5.absent c.args.start ∙ ap (λ sheet. is_named_absent sheet c.args.start) c.self.view_is
