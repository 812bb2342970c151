use Rattle.report_laws.proofs.StandingRows.{has_each_once}
use Rattle.report_laws.proofs.standings.each_player_has_one_row.Goals as goal

pub returns : goal.returns
returns c = has_each_once
