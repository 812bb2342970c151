use Rattle.std.proofs.Common.{◌<◌, ◌-◌, length, refl, arith}
use Rattle.dutch_sequence.specs.declared.exchange.Side.TheVariants.{In}
use Rattle.dutch_sequence.specs.Prelude.{value_of}
use Rattle.dutch_sequence.proofs.Turns.{at_index, map-turn, map-end}
use Rattle.dutch_sequence.proofs.exchange.put_moved_in.Goals as goal

pub bounds-sides-sides : goal.bounds-sides-sides
bounds-sides-sides c =
    omega (arith, c.args.sides.now.enough, at_index (λ place. place < length c.args.sides.now.pool.now - c.args.sides.now.k) c.args.ins.now c.loop-place.place-index c.requires.within c.loop-place-test.true)

pub overflow_add-sides : goal.overflow_add-sides
overflow_add-sides c =
    omega (arith, c.args.sides.now.few, c.args.sides.now.enough, at_index (λ place. place < length c.args.sides.now.pool.now - c.args.sides.now.k) c.args.ins.now c.loop-place.place-index c.requires.within c.loop-place-test.true)

pub loop-place-preserved : goal.loop-place-preserved
loop-place-preserved c = record {
  items = map-turn (value_of c.args.sides.now.pool.now c.args.sides.now.k In) c.args.ins.now c.loop-place.place-index _ _ _ c.args.numbers.now.items
      c.loop-place-test.true refl c.loop-place.invariant.items c.push.ensures.items;
  fits = omega (arith, c.push.ensures.len, c.loop-place.invariant.fits);
}

pub returns : goal.returns
returns c =
    map-end (value_of c.args.sides.now.pool.now c.args.sides.now.k In) c.args.ins.now c.loop-place.place-index _ c.args.numbers.now.items
    c.loop-place-test.false c.loop-place.invariant.items
