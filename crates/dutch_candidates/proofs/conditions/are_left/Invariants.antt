-- The numbers that were looked at are the bracket's and ascend up to the last one.
use Rattle.std.proofs.Common.{◌≡◌, ℕ, ◌+◌, ◌-◌, ◌<◌, ◌≤◌, length, slice_index}
use Rattle.dutch_candidates.proofs.conditions.are_left.Given as goal

abbrev pub invariant-loop-number : goal.invariant-loop-number
invariant-loop-number l = record {
  numbers : (i : ℕ) → i < l.number-index → (0 < slice_index l.down i) × (slice_index l.down i ≤ length l.reached.seats);
  ascend : (i : ℕ) → i + 1 < l.number-index → slice_index l.down i < slice_index l.down (i + 1);
  first : l.number-index ≡ 0 → l.last ≡ 0;
  last : 0 < l.number-index → l.last ≡ slice_index l.down (l.number-index - 1);
}
