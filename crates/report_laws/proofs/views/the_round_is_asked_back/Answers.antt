use Rattle.report_laws.proofs.AskedBack.{round_back}
use Rattle.report_laws.proofs.views.the_round_is_asked_back.Goals as goal

pub returns : goal.returns
returns c = round_back
