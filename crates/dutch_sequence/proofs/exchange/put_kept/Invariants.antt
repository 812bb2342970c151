use Rattle.std.proofs.Common.{◌≡◌, ◌-◌, ◌≤◌, not, map, reverse, length}
use Rattle.std.specs.List.{filter}
use Rattle.dutch_sequence.specs.Prelude.{is_member, numbers_from, value_of}
use Rattle.dutch_sequence.specs.declared.exchange.Side.TheVariants.{Out}
use Rattle.dutch_sequence.proofs.exchange.put_kept.Given as goal

abbrev pub invariant-loop-position : goal.invariant-loop-position
invariant-loop-position l = record {
  items : l.numbers.items ≡ reverse (map (value_of l.sides.pool.now l.sides.k Out) (filter (λ place. not (is_member place l.outs)) (numbers_from (l.sides.k - l.position) l.position)));
  fits : length l.numbers.items ≤ l.position;
}
