-- The number of vertices stays, and each vertex asked about is a step.
use Rattle.std.proofs.Common.{◌≡◌, ◌+◌}
use Rattle.matching.proofs.forest.Forest.look_from.Given as goal

abbrev pub invariant-loop-u : goal.invariant-loop-u
invariant-loop-u g l = record { size : l.self.size ≡ l.fn.self.size; end : l.u-end ≡ l.fn.self.size; steps : l.left + l.u ≡ l.fn.left }
