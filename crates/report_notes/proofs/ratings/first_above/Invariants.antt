use Rattle.std.proofs.Common.{◌≡◌, map}
use Rattle.trf16_report.specs.Prelude.{entry_of}
use Rattle.report_notes.specs.Ratings.{first_above}
use Rattle.report_notes.proofs.ratings.first_above.Given as goal

abbrev pub invariant-loop-player : goal.invariant-loop-player
invariant-loop-player l = first_above l.report (map entry_of l.player-iterator) ≡ first_above l.report l.report.players
