-- A candidate of the bracket has as many in S1 as in S2, and as many in S1R as in S2R.
use Rattle.dutch_bracket.proofs.FlatBrackets.{candidate_of}
use Rattle.dutch_passes.proofs.remembered.judge_candidate.Goals as goal

pub fill_quality-requires-in-None : goal.fill_quality-requires-in-None
fill_quality-requires-in-None g c =
    let of_bracket = c.requires.candidate in
    candidate_of c.args.context.now.facts c.args.context.now.reached of_bracket.lists.0 c.args.candidate.now c.reached.ensures.sound of_bracket.lists.1 of_bracket.down
