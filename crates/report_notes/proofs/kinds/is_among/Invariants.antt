use Rattle.std.proofs.Common.{◌≡◌, length}
use Rattle.std.specs.List.{list_any}
use Rattle.trf16_report.specs.Prelude.{words, is_word}
use Rattle.report_notes.proofs.kinds.is_among.Given as goal

abbrev pub invariant-loop-word : goal.invariant-loop-word
invariant-loop-word l = list_any (is_word l.kind) (words l.rest) ≡ list_any (is_word l.kind) (words l.kinds)

abbrev pub decreases-loop-word : goal.decreases-loop-word
decreases-loop-word l = length l.rest
