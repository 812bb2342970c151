use Rattle.std.proofs.Common.{◌<◌, ◌+◌, [], refl, arith}
use Rattle.dutch_sequence.specs.declared.numbers.TheConstants.{LIMIT}
use Rattle.dutch_sequence.proofs.Turns.{at_index, map-turn, map-end}
use Rattle.dutch_sequence.proofs.limbo.put_numbers.Goals as goal

pub overflow_add-place : goal.overflow_add-place
overflow_add-place c =
    omega (arith, at_index (λ place. place < LIMIT) c.args.places.now c.loop-place.place-index c.requires.within c.loop-place-test.true)

pub loop-place-preserved : goal.loop-place-preserved
loop-place-preserved c =
    map-turn (λ place. place + 1) c.args.places.now c.loop-place.place-index _ _ _ [] c.loop-place-test.true refl c.loop-place.invariant c.push.ensures.items

pub returns : goal.returns
returns c =
    map-end (λ place. place + 1) c.args.places.now c.loop-place.place-index _ [] c.loop-place-test.false c.loop-place.invariant
