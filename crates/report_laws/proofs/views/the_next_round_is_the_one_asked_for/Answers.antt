use Rattle.report_laws.proofs.ViewCases.{next_is}
use Rattle.report_laws.proofs.views.the_next_round_is_the_one_asked_for.Goals as goal

pub returns : goal.returns
returns c = next_is
