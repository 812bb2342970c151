-- The partners so far are those of the pairs.
use Rattle.std.proofs.Common.{◌≡◌, length}
use Rattle.matching.proofs.PairLemmas.{Copies}
use Rattle.matching.proofs.pairs.partners.Given as goal

abbrev pub invariant-loop-a : goal.invariant-loop-a
invariant-loop-a g l = record {
  places : length l.found.items ≡ l.a;
  size : l.size ≡ g.G.Graph.vertices l.graph;
  copies : Copies (g.G.Graph.joined l.graph) l.links.ends.items l.found.items;
}
