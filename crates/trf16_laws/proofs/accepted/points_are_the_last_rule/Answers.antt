use Rattle.trf16_laws.proofs.SummedReport.{verdict_like}
use Rattle.trf16_laws.proofs.accepted.points_are_the_last_rule.Goals as goal

pub returns : goal.returns
returns c = verdict_like
