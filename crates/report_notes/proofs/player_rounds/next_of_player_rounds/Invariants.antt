use Rattle.std.proofs.Common.{◌≡◌, ◌-◌}
use Rattle.trf16_report.specs.Prelude.{rounds_played}
use Rattle.report_notes.specs.NoteOf.{player_rounds_left_notes}
use Rattle.report_notes.proofs.player_rounds.next_of_player_rounds.Given as goal

abbrev pub invariant-loop-what : goal.invariant-loop-what
invariant-loop-what l = player_rounds_left_notes l.report l.n l.at ≡ player_rounds_left_notes l.report l.n l.fn.left

abbrev pub decreases-loop-what : goal.decreases-loop-what
decreases-loop-what l = rounds_played l.report - l.at.round
