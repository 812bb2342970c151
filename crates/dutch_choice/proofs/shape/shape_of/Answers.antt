-- What is found is the shape, and the bracket has room for it.
use Rattle.std.proofs.Common.{Option, subst}
use Rattle.dutch_bracket.proofs.ShapeLaws.{has_room}
use Rattle.dutch_choice.specs.Prelude.{IsFoundShape}
use Rattle.dutch_choice.specs.declared.start.FoundShape.{FoundShape}
use Rattle.dutch_choice.proofs.shape.shape_of.Goals as goal

pub returns-in-Ok-Some-clause-answer : goal.returns-in-Ok-Some-clause-answer
returns-in-Ok-Some-clause-answer c =
    let context = c.args.context.now in
    let found = subst (λ (o : Option FoundShape). IsFoundShape context c.found_shape.new.lister o) c.in-Ok-Some.field-0-is c.in-Ok-Some.ensures.answer in
    (found.0, has_room context.facts context.reached context.lower c.in-Ok-Some.found.shape found.0)
