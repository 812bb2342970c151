use Rattle.std.proofs.Common.{◌<◌, arith}
use Rattle.std.proofs.lemmas.List.{at_drop_more, at_drop_all}
use Rattle.dutch_sequence.specs.Prelude.{count_of, total, value_of}
use Rattle.dutch_sequence.proofs.Turns.{at_index}
use Rattle.dutch_sequence.proofs.sums.total_of.Goals as goal

pub value_at-sum-requires : goal.value_at-sum-requires
value_at-sum-requires c =
    at_index (λ place. place < count_of c.args.sides.now.pool.now c.args.sides.now.k c.args.side) c.args.places.now c.loop-place.place-index c.requires.within c.loop-place-test.true

pub overflow_add-sum : goal.overflow_add-sum
overflow_add-sum c = omega (arith, c.value_at-sum.ensures.small, c.loop-place.invariant.small, c.requires.short)

pub loop-place-preserved : goal.loop-place-preserved
loop-place-preserved c =
    let step = at_drop_more (total (value_of c.args.sides.now.pool.now c.args.sides.now.k c.args.side)) c.args.places.now c.loop-place.place-index 0 c.loop-place-test.true in
    record {
      small = omega (arith, c.value_at-sum.ensures.small);
      so_far = omega (arith, step, c.value_at-sum.ensures.value, c.loop-place.invariant.so_far);
    }

pub returns-clause-value : goal.returns-clause-value
returns-clause-value c =
    let nothing = at_drop_all (total (value_of c.args.sides.now.pool.now c.args.sides.now.k c.args.side)) c.args.places.now c.loop-place.place-index c.loop-place-test.false in
    omega (arith, nothing, c.loop-place.invariant.so_far)

pub returns-clause-small : goal.returns-clause-small
returns-clause-small c = omega (arith, c.loop-place.invariant.small)
