-- The sides so far are told, one for each number.
use Rattle.std.proofs.Common.{◌≡◌, length}
use Rattle.dutch_weight_floors.specs.Prelude.{TellsSides}
use Rattle.dutch_weight_floors.proofs.scoped.sides.Given as goal

abbrev pub invariant-loop-place : goal.invariant-loop-place
invariant-loop-place l = TellsSides l.context.reached.mdps l.scope l.sides.items × (length l.sides.items ≡ l.place)
