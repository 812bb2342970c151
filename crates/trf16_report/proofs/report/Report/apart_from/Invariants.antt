-- Who is found so far, and whom the players to come have of them, are together all whom one does not meet.
use Rattle.std.proofs.Common.{◌≡◌, ◌++◌, map}
use Rattle.std.specs.Prelude.{filter}
use Rattle.trf16_report.specs.Prelude.{entry_of, apart, apart_from, starts_of}
use Rattle.trf16_report.proofs.report.Report.apart_from.Given as goal

abbrev pub invariant-loop-player : goal.invariant-loop-player
invariant-loop-player l = (l.starts.items ++ filter (apart l.self l.start) (starts_of (map entry_of l.player-iterator))) ≡ apart_from l.self l.start
