-- The marks so far, one for each number: who has none keeps his pairs.
use Rattle.std.proofs.Common.{◌≡◌, length}
use Rattle.dutch_weight_floors.specs.Prelude.{MarkTurned}
use Rattle.dutch_weight_floors.proofs.scoped.Scoped.turned.Given as goal

abbrev pub invariant-loop-place : goal.invariant-loop-place
invariant-loop-place l = record {
  marked : MarkTurned l.turned.items l.before l.self;
  count : length l.turned.items ≡ l.place;
}
