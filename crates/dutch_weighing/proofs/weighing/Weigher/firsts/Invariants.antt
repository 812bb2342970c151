-- Of the numbers passed so far the first ones are told.
use Rattle.std.proofs.Common.{◌≡◌, ◌≤◌, length}
use Rattle.dutch_weighing.specs.Classes.{TellsFirstsUpto}
use Rattle.dutch_weighing.proofs.weighing.Weigher.firsts.Given as goal

abbrev pub invariant-loop-above : goal.invariant-loop-above
invariant-loop-above l = record {
  told : TellsFirstsUpto l.self l.firsts.items (length l.firsts.items);
  room : length l.firsts.items ≡ l.above;
  within : l.above ≤ length l.self.reached.seats;
}
