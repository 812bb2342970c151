use Rattle.std.proofs.Common.{◌≡◌, ◌++◌, length}
use Rattle.report_notes.specs.Notes.{notes_of}
use Rattle.report_notes.specs.Places.{coming}
use Rattle.replies.specs.Prelude.{notes_text}
use Rattle.replies.proofs.notes.put_notes.Given as goal

abbrev pub invariant-loop-note : goal.invariant-loop-note
invariant-loop-note l = l.text ++ notes_text (coming l.report l.place) ≡ l.initial.text ++ notes_text (notes_of l.report l.bytes)

abbrev pub decreases-loop-note : goal.decreases-loop-note
decreases-loop-note l = length (coming l.report l.place)
