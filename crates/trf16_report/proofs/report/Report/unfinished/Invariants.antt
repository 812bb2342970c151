use Rattle.std.proofs.Common.{◌≡◌, map}
use Rattle.trf16_report.specs.Prelude.{entry_of, unfinished_of}
use Rattle.trf16_report.proofs.report.Report.unfinished.Given as goal

abbrev pub invariant-loop-player : goal.invariant-loop-player
invariant-loop-player l = unfinished_of (map entry_of l.player-iterator) ≡ unfinished_of l.self.players
