use Rattle.std.proofs.Common.{◌≡◌, map}
use Rattle.trf16_report.specs.Prelude.{entry_of}
use Rattle.report_notes.specs.Doubles.{first_same}
use Rattle.report_notes.proofs.doubles.first_same.Given as goal

abbrev pub invariant-loop-player : goal.invariant-loop-player
invariant-loop-player l =
    first_same l.what l.report.utf8 l.own l.line (map entry_of l.player-iterator) ≡ first_same l.what l.report.utf8 l.own l.line l.report.players
