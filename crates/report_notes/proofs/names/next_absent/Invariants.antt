use Rattle.std.proofs.Common.{◌≡◌, length}
use Rattle.trf16_report.specs.Prelude.{words}
use Rattle.report_notes.specs.Notes.{absent_notes}
use Rattle.report_notes.proofs.names.next_absent.Given as goal

abbrev pub invariant-loop-word : goal.invariant-loop-word
invariant-loop-word l = absent_notes l.report l.n (words l.rest) ≡ absent_notes l.report l.n (words l.bytes)

abbrev pub decreases-loop-word : goal.decreases-loop-word
decreases-loop-word l = length l.rest
