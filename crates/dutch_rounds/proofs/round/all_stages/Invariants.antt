-- The stages so far and the brackets of the rest of the round are those of the whole round.
use Rattle.std.proofs.Common.{◌≡◌, ◌++◌, length, map}
use Rattle.std.specs.List.{AllByRecursion}
use Rattle.dutch_rounds.specs.Prelude.{IsStage, visit, round}
use Rattle.dutch_rounds.proofs.RoundEnds.{bye_in}
use Rattle.dutch_rounds.proofs.round.all_stages.Given as goal

abbrev pub invariant-loop-stages : goal.invariant-loop-stages
invariant-loop-stages g l = record {
  facts : l.walk.facts ≡ l.field;
  limit : l.walk.limit ≡ l.limit;
  told : map visit l.stages.items ++ l.walk.rest.reached ≡ (round l.field).reached;
  bye : bye_in l.walk.rest.pairing ≡ bye_in (round l.field).pairing;
  stages : AllByRecursion (IsStage l.field) l.stages.items;
}

abbrev pub decreases-loop-stages : goal.decreases-loop-stages
decreases-loop-stages g l = length l.walk.rest.reached
