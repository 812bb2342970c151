use Rattle.std.proofs.Common.{◌≡◌, ◌++◌, map}
use Rattle.trf16_report.specs.Prelude.{entry_of}
use Rattle.tables.specs.Prelude.{row_of}
use Rattle.tables.proofs.standings.first_rows.Given as goal

abbrev pub invariant-loop-player : goal.invariant-loop-player
invariant-loop-player l = l.rows.items ++ map (row_of l.report) (map entry_of l.player-iterator) ≡ map (row_of l.report) l.report.players
