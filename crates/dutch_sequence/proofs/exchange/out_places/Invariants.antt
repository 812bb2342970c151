use Rattle.std.proofs.Common.{◌≡◌, ◌≤◌, ◌<◌, not, length}
use Rattle.std.specs.List.{filter, AllByRecursion}
use Rattle.dutch_sequence.specs.Prelude.{is_member, numbers_from, value_of}
use Rattle.dutch_sequence.specs.declared.exchange.Side.TheVariants.{Out}
use Rattle.dutch_sequence.proofs.exchange.out_places.Given as goal

abbrev pub invariant-loop-place : goal.invariant-loop-place
invariant-loop-place l = record {
  so_far : l.places.items ≡ filter (λ place. not (is_member (value_of l.sides.pool.now l.sides.k Out place) l.set)) (numbers_from 0 l.place);
  within : AllByRecursion (λ place. place < l.sides.k) l.places.items;
  fits : length l.places.items ≤ l.place;
}
