-- Each set so far has a mark for each vertex.
use Rattle.std.proofs.Common.{◌≡◌, All, length}
use Rattle.cheapest.proofs.forest.Forest.priced_sets.Given as goal

abbrev pub invariant-loop-blossom : goal.invariant-loop-blossom
invariant-loop-blossom g l = All (λ set. length set.marks.items ≡ l.size) l.sets.items
