use Rattle.report_laws.proofs.WrittenView.{view_again}
use Rattle.report_laws.proofs.views.a_view_is_accepted.Goals as goal

pub returns : goal.returns
returns c = view_again
