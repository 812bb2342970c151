-- The pairs so far in front of those of the rest of the round are those of the whole round.
use Rattle.std.proofs.Common.{◌≡◌, length, option_map}
use Rattle.dutch_rounds.specs.Prelude.{round, in_front}
use Rattle.dutch_rounds.proofs.round.pairs_and_bye.Given as goal

abbrev pub invariant-loop-pairs : goal.invariant-loop-pairs
invariant-loop-pairs g l = record {
  facts : l.walk.facts ≡ l.field;
  limit : l.walk.limit ≡ l.limit;
  paired : option_map (in_front l.pairs.items) l.walk.rest.pairing ≡ (round l.field).pairing;
}

abbrev pub decreases-loop-pairs : goal.decreases-loop-pairs
decreases-loop-pairs g l = length l.walk.rest.reached
