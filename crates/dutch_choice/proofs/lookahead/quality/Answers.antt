-- A candidate of a bracket has as many in S1 as in S2, and as many in S1R as in S2R.
use Rattle.dutch_bracket.proofs.FlatBrackets.{candidate_of}
use Rattle.dutch_choice.proofs.lookahead.quality.Goals as goal

pub fill_quality-requires : goal.fill_quality-requires
fill_quality-requires c =
    candidate_of c.args.field.now c.args.reached.now c.requires.candidate.lists.0 c.args.candidate.now c.requires.of c.requires.candidate.lists.1 c.requires.candidate.down
