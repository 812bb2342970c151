use Rattle.std.proofs.Common.{◌≡◌, ◌+◌, ◌≤◌, ◌||◌, length}
use Rattle.trf16_report.specs.Prelude.{lines, lines_onto, has_too_many_rounds}
use Rattle.trf16_report.proofs.ReadingLemmas.{SameText}
use Rattle.trf16_report.proofs.NoteLemmas.{AreNoted}
use Rattle.trf16_reader.proofs.reading.lines_onto.Given as goal

abbrev pub invariant-loop-rest : goal.invariant-loop-rest
invariant-loop-rest l = (lines_onto l.draft l.n (lines l.rest) ≡ lines_onto l.initial.draft 1 (lines l.text))
    × ((l.long || has_too_many_rounds l.initial.draft.utf8 (lines l.rest)) ≡ has_too_many_rounds l.initial.draft.utf8 (lines l.text))
    × SameText l.initial.draft l.draft
    × (l.n + length l.rest ≤ length l.text + 1)
    × AreNoted l.notes l.initial.draft.utf8 l.n (lines l.rest) (lines l.text)

abbrev pub decreases-loop-rest : goal.decreases-loop-rest
decreases-loop-rest l = length l.rest
