use Rattle.std.proofs.Common.{◌≡◌, ◌≤◌, ◌-◌}
use Rattle.dutch_arrangements.specs.Prelude.{Spends}
use Rattle.dutch_bracket.specs.Prelude.{frame_of}
use Rattle.round_lines.specs.CandidateTexts.{line_text}
use Rattle.round_lines.proofs.ListingLemmas.{IsUnderway}
use Rattle.round_lines.proofs.listing.put_candidates.Given as goal

abbrev pub invariant-loop-done : goal.invariant-loop-done
invariant-loop-done g l = record {
  underway : IsUnderway l.initial.text (line_text l.bracket.field.now l.bracket.reached.now) l.initial.candidates.coming l.candidates.coming l.done l.text;
  frame : l.candidates.frame ≡ frame_of l.bracket.field.now l.bracket.reached.now;
  within : l.done ≤ l.count;
  spends : Spends l.initial.budget l.budget;
}

abbrev pub decreases-loop-done : goal.decreases-loop-done
decreases-loop-done g l = l.count - l.done
