use Rattle.report_laws.proofs.RankedReport.{ranked_twice}
use Rattle.report_laws.proofs.places.ranking_twice_is_ranking_once.Goals as goal

pub returns : goal.returns
returns c = ranked_twice
