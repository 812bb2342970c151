use Rattle.std.proofs.Common.{◌≡◌, ◌++◌, map}
use Rattle.std.specs.List.{filter}
use Rattle.dutch_sequence.specs.Prelude.{numbers_from, is_fixed, value_of}
use Rattle.dutch_sequence.proofs.exchange.put_fixed.Given as goal

abbrev pub invariant-loop-place : goal.invariant-loop-place
invariant-loop-place l = record {
  so_far : l.numbers.items ≡ l.initial.numbers.items ++ map (value_of l.stage.pool.now l.stage.k l.fixed.side) (filter (is_fixed l.fixed.taken.now l.fixed.limit l.known) (numbers_from 0 l.place));
}
