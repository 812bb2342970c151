use Rattle.std.proofs.Common.{◌≡◌, length}
use Rattle.trf16_report.specs.Prelude.{words}
use Rattle.report_notes.specs.Notes.{are_all}
use Rattle.report_notes.proofs.names.are_all.Given as goal

abbrev pub invariant-loop-word : goal.invariant-loop-word
invariant-loop-word l = are_all l.number (words l.rest) ≡ are_all l.number (words l.bytes)

abbrev pub decreases-loop-word : goal.decreases-loop-word
decreases-loop-word l = length l.rest
