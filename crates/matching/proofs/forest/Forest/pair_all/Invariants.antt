-- The number of vertices stays, and each turn takes no more steps than its square.
use Rattle.std.proofs.Common.{◌≡◌, ◌≤◌, ◌+◌, ◌*◌}
use Rattle.matching.proofs.forest.Forest.pair_all.Given as goal

abbrev pub invariant-loop-root : goal.invariant-loop-root
invariant-loop-root g l = record {
  size : l.self.size ≡ l.fn.self.size;
  end : l.root-end ≡ l.fn.self.size;
  falls : l.left ≤ l.fn.left;
  few : l.fn.left ≤ l.left + l.fn.self.size * l.fn.self.size + l.root * (l.fn.self.size * l.fn.self.size);
}
