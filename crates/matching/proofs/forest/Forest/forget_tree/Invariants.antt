-- The number of vertices stays.
use Rattle.std.proofs.Common.{◌≡◌}
use Rattle.matching.proofs.forest.Forest.forget_tree.Given as goal

abbrev pub invariant-loop-v : goal.invariant-loop-v
invariant-loop-v l = record { size : l.self.size ≡ l.fn.self.size; end : l.v-end ≡ l.fn.self.size }
