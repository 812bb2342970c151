use Rattle.std.proofs.Common.{◌∙◌, ap, sym, subst, arith, length, ◌+◌, ◌++◌, ◌∷◌, []}
use Rattle.std.specs.List.Sorted.{IsStrictlyIncreasing}
use Rattle.dutch_sequence.proofs.Members.{length-numbers, numbers-append}
use Rattle.dutch_sequence.proofs.Counts.{numbers-rise}
use Rattle.dutch_sequence.proofs.numbers.put_numbered.Goals as goal

pub push-requires : goal.push-requires
push-requires c = (omega arith, omega (arith, ap length c.loop-place.invariant, length-numbers c.args.first c.loop-place.place))

pub loop-place-preserved : goal.loop-place-preserved
loop-place-preserved c =
    c.push.ensures.items ∙ ap (λ xs. xs ++ (c.args.first + c.loop-place.place) ∷ []) c.loop-place.invariant
    ∙ sym (numbers-append c.args.first c.loop-place.place 1)

pub returns-clause-ascends : goal.returns-clause-ascends
returns-clause-ascends c = subst IsStrictlyIncreasing (sym c.loop-place.invariant) (numbers-rise c.args.first c.loop-place.place)
