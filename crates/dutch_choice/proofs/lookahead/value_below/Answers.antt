-- The next bracket is one of the field, and its residents have one score.
use Rattle.std.proofs.Common.{sym, subst}
use Rattle.dutch_bracket.specs.Prelude.{Reached, IsOf, IsFlat}
use Rattle.dutch_bracket.proofs.NextBrackets.{next_of, next_flat}
use Rattle.dutch_choice.proofs.lookahead.value_below.Goals as goal

pub value_of-requires-clause-of : goal.value_of-requires-clause-of
value_of-requires-clause-of c =
    let P : Reached → Type 0 = IsOf c.args.above.now.field.now in
    subst P (sym c.next_bracket.ensures) (next_of c.args.above.now.field.now c.args.above.now.reached.now c.args.down.now c.args.above.now.next.now c.args.above.now.of c.requires.down c.args.above.now.below)

pub value_of-requires-clause-flat : goal.value_of-requires-clause-flat
value_of-requires-clause-flat c =
    subst (IsFlat c.args.above.now.field.now) (sym c.next_bracket.ensures)
    (next_flat c.args.above.now.field.now c.args.above.now.reached.now c.args.down.now c.args.above.now.next.now c.args.above.now.of c.requires.down c.args.above.now.below c.requires.ordinary)
