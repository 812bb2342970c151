-- Those that were looked at have the score.
use Rattle.std.proofs.Common.{◌≡◌, ℕ, ◌<◌, slice_index}
use Rattle.dutch_bracket.specs.Prelude.{score_at}
use Rattle.dutch_candidates.proofs.conditions.have_score.Given as goal

abbrev pub invariant-loop-seat : goal.invariant-loop-seat
invariant-loop-seat l = (i : ℕ) → i < l.seat-index → score_at l.field (slice_index l.seats i) ≡ l.score
