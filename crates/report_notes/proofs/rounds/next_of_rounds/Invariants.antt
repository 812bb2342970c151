use Rattle.std.proofs.Common.{◌≡◌, ◌-◌}
use Rattle.trf16_report.specs.Prelude.{rounds_played}
use Rattle.report_notes.specs.NoteOf.{rounds_left_notes}
use Rattle.report_notes.proofs.rounds.next_of_rounds.Given as goal

abbrev pub invariant-loop-at : goal.invariant-loop-at
invariant-loop-at l = rounds_left_notes l.report l.at ≡ rounds_left_notes l.report l.fn.left

abbrev pub decreases-loop-at : goal.decreases-loop-at
decreases-loop-at l = rounds_played l.report - l.at.round
