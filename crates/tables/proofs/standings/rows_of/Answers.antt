use Rattle.tables.proofs.OrderLemmas.{ranked_IsRanked}
use Rattle.tables.proofs.standings.rows_of.Goals as goal

pub invariant_of-result : goal.invariant_of-result
invariant_of-result c = ranked_IsRanked c.in_ok-rows.rows.items c.in_ok-rows-2.rows.items c.in_ok-rows-2.ensures
