-- The numbers passed so far are in the table.
use Rattle.std.proofs.Common.{◌≡◌, length}
use Rattle.dutch_weight_floors.specs.Prelude.{AreAdded}
use Rattle.dutch_weight_floors.proofs.order.Order.table_upto.Given as goal

abbrev pub invariant-loop-above : goal.invariant-loop-above
invariant-loop-above l = (length l.table.items ≡ l.above) × AreAdded l.self l.table.items
