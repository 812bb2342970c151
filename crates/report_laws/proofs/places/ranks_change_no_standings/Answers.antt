use Rattle.report_laws.proofs.RankedReport.{standings_kept}
use Rattle.report_laws.proofs.places.ranks_change_no_standings.Goals as goal

pub returns : goal.returns
returns c = standings_kept
