use Rattle.std.proofs.Common.{◌≡◌, length}
use Rattle.trf16_report.specs.Prelude.{lines}
use Rattle.report_notes.specs.RefusalNotes.{line_with}
use Rattle.report_notes.proofs.two_cells.line_with.Given as goal

abbrev pub invariant-loop-rest : goal.invariant-loop-rest
invariant-loop-rest l = line_with l.utf8 l.start (lines l.rest) ≡ line_with l.utf8 l.start (lines l.text)

abbrev pub decreases-loop-rest : goal.decreases-loop-rest
decreases-loop-rest l = length l.rest
