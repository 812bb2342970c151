-- The numbers passed so far are told of.
use Rattle.std.proofs.Common.{◌≡◌, ◌+◌, ◌≤◌, length}
use Rattle.dutch_weight_floors.specs.Prelude.{TellAlike, size_by}
use Rattle.dutch_weight_floors.proofs.scoped.Scoped.classes.Given as goal

abbrev pub invariant-loop-above : goal.invariant-loop-above
invariant-loop-above l = record {
  told : TellAlike l.self l.classes.items (length l.classes.items);
  room : length l.classes.items ≡ l.above + 1;
  within : l.above ≤ size_by l.self.reach l.self.weighing;
}
