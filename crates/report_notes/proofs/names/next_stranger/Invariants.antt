use Rattle.std.proofs.Common.{◌≡◌, length}
use Rattle.trf16_report.specs.Prelude.{words}
use Rattle.report_notes.specs.Notes.{strangers}
use Rattle.report_notes.proofs.names.next_stranger.Given as goal

abbrev pub invariant-loop-word : goal.invariant-loop-word
invariant-loop-word l = strangers l.report (words l.rest) ≡ strangers l.report (words l.bytes)

abbrev pub decreases-loop-word : goal.decreases-loop-word
decreases-loop-word l = length l.rest
