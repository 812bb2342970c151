-- The numbers passed so far are told of.
use Rattle.std.proofs.Common.{◌+◌, ◌≤◌, length}
use Rattle.dutch_weighing.specs.Prelude.{HasPairs, TellsPairsUpto, place_in}
use Rattle.dutch_weighing.proofs.weighing.PairWeigher.put_row.Given as goal

abbrev pub invariant-loop-b : goal.invariant-loop-b
invariant-loop-b l = record {
  told : TellsPairsUpto l.self.weigher.now l.table (place_in l.self.weigher.now l.a 1 + l.b);
  room : HasPairs l.self.weigher.now l.table;
  within : l.b ≤ length l.self.weigher.now.reached.seats;
}
