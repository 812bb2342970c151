-- The partners so far are those of the pairs.
use Rattle.std.proofs.Common.{◌≡◌, length}
use Rattle.matching.proofs.PairLemmas.{Copies}
use Rattle.cheapest.proofs.pairs.partners.Given as goal

abbrev pub invariant-loop-a : goal.invariant-loop-a
invariant-loop-a g l = record {
  places : length l.found.items ≡ l.a;
  size : l.size ≡ g.C.Costs.vertices l.costs;
  wanted : length l.wanted.items ≡ l.size;
  copies : Copies (g.C.Costs.joined l.costs) l.wanted.items l.found.items;
}
