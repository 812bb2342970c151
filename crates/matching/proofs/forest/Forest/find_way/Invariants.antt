-- The number of vertices stays, and each turn takes no more steps than there are vertices.
use Rattle.std.proofs.Common.{◌≡◌, ◌≤◌, ◌+◌, ◌*◌}
use Rattle.matching.proofs.forest.Forest.find_way.Given as goal

abbrev pub invariant-loop : goal.invariant-loop
invariant-loop g l = record {
  size : l.self.size ≡ l.fn.self.size;
  end : l.end ≡ l.fn.self.size;
  falls : l.left ≤ l.fn.left;
  few : l.fn.left ≤ l.left + l.counter * l.fn.self.size;
}
