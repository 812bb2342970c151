use Rattle.report_laws.proofs.StandingLevels.{direct_together}
use Rattle.report_laws.proofs.standings.direct_values_come_together.Goals as goal

pub returns : goal.returns
returns c = direct_together
