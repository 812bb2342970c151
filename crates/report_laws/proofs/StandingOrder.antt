-- Of two rows that stand in order, the one behind does not go before the other.
use Rattle.std.proofs.Common.{◌≡◌, ℕ, false, ◌<◌, List, length, get_or}
use Rattle.trf16_report.proofs.RankLemmas.{ranked_at}
use Rattle.tables.specs.Prelude.{RowFacts, row_goes_before, IsRanked, no_row}

pub goes_behind : (all : List RowFacts) (a b : ℕ) → a < b → b < length all → IsRanked all → row_goes_before (get_or all b no_row) (get_or all a no_row) ≡ false
goes_behind all a b lt within ranks = ranked_at row_goes_before all a b no_row lt within ranks
