use Rattle.std.proofs.Common.{◌≡◌, ◌≤◌, ◌<◌, ◌-◌, length}
use Rattle.std.specs.List.{filter, AllByRecursion}
use Rattle.dutch_sequence.specs.Prelude.{is_member, numbers_from, value_of}
use Rattle.dutch_sequence.specs.declared.exchange.Side.TheVariants.{In}
use Rattle.dutch_sequence.proofs.exchange.in_places.Given as goal

abbrev pub invariant-loop-place : goal.invariant-loop-place
invariant-loop-place l = record {
  so_far : l.places.items ≡ filter (λ place. is_member (value_of l.sides.pool.now l.sides.k In place) l.set) (numbers_from 0 l.place);
  within : AllByRecursion (λ place. place < length l.sides.pool.now - l.sides.k) l.places.items;
  fits : length l.places.items ≤ l.place;
}
