-- A shape that is cheap has no candidate that can be chosen.
use Rattle.dutch_choice.proofs.CheapShapes.{none_of}
use Rattle.dutch_choice.proofs.shape.ShapesAboveFloorShapesNarrowedRule.first.Goals as goal

pub returns-then-is_too_cheap-clause-answer : goal.returns-then-is_too_cheap-clause-answer
returns-then-is_too_cheap-clause-answer c =
    none_of c.args.self.now.context.now c.args.shape (c.is_too_cheap.ensures c.if-is_too_cheap.true) c.requires.fits
