use Rattle.trf16_laws.proofs.WrittenReport.{kept_bye}
use Rattle.trf16_laws.proofs.accepted.bye_is_kept.Goals as goal

pub returns : goal.returns
returns c = kept_bye
