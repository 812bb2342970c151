use Rattle.report_laws.proofs.NumberedReport.{numbered_again}
use Rattle.report_laws.proofs.renumbered.a_renumbered_report_is_accepted.Goals as goal

pub returns : goal.returns
returns c = numbered_again
