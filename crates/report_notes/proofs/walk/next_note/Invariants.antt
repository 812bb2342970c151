use Rattle.std.proofs.Common.{◌≡◌, length}
use Rattle.report_notes.specs.Places.{coming}
use Rattle.report_notes.proofs.walk.next_note.Given as goal

abbrev pub invariant-loop-note : goal.invariant-loop-note
invariant-loop-note l = coming l.report l.at ≡ coming l.report l.place

abbrev pub decreases-loop-note : goal.decreases-loop-note
decreases-loop-note l = length l.at.text.now
