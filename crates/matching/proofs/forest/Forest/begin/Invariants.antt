-- The number of vertices stays, and each turn takes no more steps than there are vertices.
use Rattle.std.proofs.Common.{◌≡◌, ◌≤◌, ◌+◌, ◌*◌}
use Rattle.matching.proofs.forest.Forest.begin.Given as goal

abbrev pub invariant-loop-v : goal.invariant-loop-v
invariant-loop-v g l = record {
  size : l.self.size ≡ l.fn.self.size;
  end : l.v-end ≡ l.fn.self.size;
  falls : l.left ≤ l.fn.left;
  few : l.fn.left ≤ l.left + l.v * l.fn.self.size;
}
