-- The rows passed so far are told of.
use Rattle.std.proofs.Common.{◌*◌, ◌≤◌, length}
use Rattle.dutch_weighing.specs.Prelude.{HasPairs, TellsPairsUpto}
use Rattle.dutch_weighing.proofs.weighing.PairWeigher.put_pairs.Given as goal

abbrev pub invariant-loop-a : goal.invariant-loop-a
invariant-loop-a l = record {
  told : TellsPairsUpto l.self.weigher.now l.table (length l.self.weigher.now.reached.seats * l.a);
  room : HasPairs l.self.weigher.now l.table;
  within : l.a ≤ length l.self.weigher.now.reached.seats;
}
