use Rattle.std.proofs.Common.{◌≡◌, [], length, slice_index_or}
use Rattle.trf16_report.specs.Prelude.{lines}
use Rattle.report_notes.specs.RefusalNotes.{line_in}
use Rattle.report_notes.proofs.refusal.line_in.Given as goal

abbrev pub invariant-loop-rest : goal.invariant-loop-rest
invariant-loop-rest l = slice_index_or (lines l.rest) l.before [] ≡ line_in l.bytes l.n

abbrev pub decreases-loop-rest : goal.decreases-loop-rest
decreases-loop-rest l = length l.rest
