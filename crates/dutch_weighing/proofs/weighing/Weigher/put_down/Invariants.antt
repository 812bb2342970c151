-- The numbers passed so far are told of.
use Rattle.std.proofs.Common.{◌≡◌, ◌≤◌, length}
use Rattle.dutch_weighing.specs.Prelude.{TellsDownUpto}
use Rattle.dutch_weighing.proofs.weighing.Weigher.put_down.Given as goal

abbrev pub invariant-loop-a : goal.invariant-loop-a
invariant-loop-a l = record {
  told : TellsDownUpto l.self l.table l.a;
  room : length l.table ≡ length l.initial.table;
  within : l.a ≤ length l.self.reached.seats;
}
