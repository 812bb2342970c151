-- A bracket with a candidate has a shape, and has room for it.
use Rattle.std.proofs.Common.{Option, subst}
use Rattle.dutch_bracket.proofs.ShapeLaws.{has_room, shape_there}
use Rattle.dutch_choice.specs.Prelude.{IsFoundShape}
use Rattle.dutch_choice.specs.declared.start.FoundShape.{FoundShape}
use Rattle.dutch_choice.proofs.choice.choose_in.Goals as goal

pub unreachable-requires : goal.unreachable-requires
unreachable-requires g c =
    let context = c.args.context.now in
    shape_there context.facts context.reached context.lower c.requires.candidate
    (subst (λ (o : Option FoundShape). IsFoundShape context c.found_shape.new.lister o) c.in-Ok-None.field-0-is c.in-Ok-None.ensures.answer)

pub invariant_of-asked : goal.invariant_of-asked
invariant_of-asked g c =
    let context = c.args.context.now in
    let found = subst (λ (o : Option FoundShape). IsFoundShape context c.found_shape.new.lister o) c.in-Ok-Some.field-0-is c.in-Ok-Some.ensures.answer in
    record { fits = has_room context.facts context.reached context.lower c.in-Ok-Some.found.shape found.0 }
