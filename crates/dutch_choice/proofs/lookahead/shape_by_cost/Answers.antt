-- In an ordinary bracket what is told of the shape does not hang on the seats below.
use Rattle.std.proofs.Common.{◌≡◌, false, [], Some, ap}
use Rattle.std.proofs.lemmas.Option.{IfSome_then}
use Rattle.dutch_bracket.specs.Prelude.{is_penultimate, shape_of}
use Rattle.dutch_choice.proofs.AlwaysShapes.{always_here}
use Rattle.dutch_choice.proofs.lookahead.shape_by_cost.Goals as goal

pub returns-clause-answer : goal.returns-clause-answer
returns-clause-answer c =
    let facts = c.args.rule.field.now in
    let reached = c.args.rule.reached.now in
    let once : is_penultimate reached.kind ≡ false = ap is_penultimate c.requires in
    IfSome_then c.in_ok-told_by_cost.field-0.shape {P = λ shape. shape_of facts reached [] ≡ Some shape} c.in_ok-told_by_cost.ensures.answer.1 (λ shape here. always_here facts reached shape once here)
