-- The numbers passed so far are told of.
use Rattle.std.proofs.Common.{◌≡◌, ◌≤◌, length}
use Rattle.dutch_bracket.specs.Prelude.{count_below}
use Rattle.dutch_weighing.specs.Prelude.{TellsBelowUpto}
use Rattle.dutch_weighing.proofs.weighing.BelowWeigher.put_all.Given as goal

abbrev pub invariant-loop-a : goal.invariant-loop-a
invariant-loop-a l = record {
  told : TellsBelowUpto l.self.weigher.now l.table l.a;
  room : length l.table ≡ length l.initial.table;
  within : l.a ≤ count_below l.self.weigher.now.facts l.self.weigher.now.reached l.self.weigher.now.lower;
}
