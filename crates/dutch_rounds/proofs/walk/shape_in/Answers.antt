-- A bracket with a candidate has a shape.
use Rattle.std.proofs.lemmas.Option.{MatchOption-at_none}
use Rattle.dutch_bracket.proofs.ShapeLaws.{shape_there}
use Rattle.dutch_rounds.proofs.walk.shape_in.Goals as goal

pub unreachable-requires : goal.unreachable-requires
unreachable-requires c =
    let context = c.args.context.now in
    shape_there context.facts context.reached context.lower c.requires.candidate (MatchOption-at_none _ _ c.in-None.is c.in_ok-shape.ensures.answer)
