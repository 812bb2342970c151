use Rattle.report_laws.proofs.StandingKeys.{has_each_key}
use Rattle.report_laws.proofs.standings.each_row_has_each_key.Goals as goal

pub returns : goal.returns
returns c = has_each_key
