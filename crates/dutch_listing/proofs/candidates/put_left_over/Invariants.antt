use Rattle.std.proofs.Common.{◌≡◌, ◌≤◌, length}
use Rattle.dutch_arrangements.specs.Prelude.{numbers_from, left_of, paired}
use Rattle.dutch_listing.proofs.candidates.put_left_over.Given as goal

abbrev pub invariant-loop-place : goal.invariant-loop-place
invariant-loop-place l = record {
  items : l.left.items ≡ left_of (numbers_from 1 l.place) (paired l.lists);
  fits : length l.left.items ≤ l.place;
}
