use Rattle.std.proofs.Common.{◌≡◌, ◌++◌, ◌+◌, map, take, length}
use Rattle.dutch_sequence.specs.declared.exchange.Side.TheVariants.{In}
use Rattle.dutch_sequence.specs.Prelude.{value_of}
use Rattle.dutch_sequence.proofs.exchange.put_moved_in.Given as goal

abbrev pub invariant-loop-place : goal.invariant-loop-place
invariant-loop-place l = record {
  items : l.numbers.items ≡ l.initial.numbers.items ++ map (value_of l.sides.pool.now l.sides.k In) (take l.place-index l.ins);
  fits : length l.numbers.items ≡ length l.initial.numbers.items + l.place-index;
}
