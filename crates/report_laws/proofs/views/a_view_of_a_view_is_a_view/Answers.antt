use Rattle.report_laws.proofs.BackTwice.{twice_is_once}
use Rattle.report_laws.proofs.views.a_view_of_a_view_is_a_view.Goals as goal

pub returns : goal.returns
returns c = twice_is_once
