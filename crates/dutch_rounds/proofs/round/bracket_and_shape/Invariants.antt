-- The bracket that is asked for is not passed.
use Rattle.std.proofs.Common.{◌≡◌, ◌<◌, ◌≤◌, length}
use Rattle.dutch_rounds.proofs.round.bracket_and_shape.Given as goal

abbrev pub invariant-loop-walk : goal.invariant-loop-walk
invariant-loop-walk g l = record {
  facts : l.walk.facts ≡ l.field;
  limit : l.walk.limit ≡ l.limit;
  low : 0 < l.number → l.walk.number ≤ l.number;
}

abbrev pub decreases-loop-walk : goal.decreases-loop-walk
decreases-loop-walk g l = length l.walk.rest.reached
