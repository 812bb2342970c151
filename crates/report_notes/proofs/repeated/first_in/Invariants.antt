use Rattle.std.proofs.Common.{◌≡◌, ◌+◌, ◌≤◌, length}
use Rattle.trf16_report.specs.Prelude.{lines}
use Rattle.report_notes.specs.RefusalNotes.{first_saying_from}
use Rattle.report_notes.proofs.repeated.first_in.Given as goal

abbrev pub invariant-loop-rest : goal.invariant-loop-rest
invariant-loop-rest l =
    (first_saying_from l.repeated l.utf8 (l.n + 1) (lines l.rest) ≡ first_saying_from l.repeated l.utf8 1 (lines l.text))
    × (l.n + length l.rest ≤ length l.text)

abbrev pub decreases-loop-rest : goal.decreases-loop-rest
decreases-loop-rest l = length l.rest
