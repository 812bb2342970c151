-- The scores of those that were looked at are above.
use Rattle.std.proofs.Common.{ℕ, ◌<◌, slice_index}
use Rattle.dutch_bracket.specs.Prelude.{score_at}
use Rattle.dutch_candidates.proofs.conditions.are_above.Given as goal

abbrev pub invariant-loop-seat : goal.invariant-loop-seat
invariant-loop-seat l = (i : ℕ) → i < l.seat-index → l.score < score_at l.field (slice_index l.seats i)
