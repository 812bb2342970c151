use Rattle.report_laws.proofs.PairedView.{field_back}
use Rattle.report_laws.proofs.views.a_paired_round_has_its_field_back.Goals as goal

pub returns : goal.returns
returns c = field_back
