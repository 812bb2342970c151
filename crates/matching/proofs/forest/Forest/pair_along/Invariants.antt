-- The number of vertices stays, and the way has come to one of them.
use Rattle.std.proofs.Common.{◌≡◌, ◌<◌}
use Rattle.matching.proofs.forest.Forest.pair_along.Given as goal

abbrev pub invariant-loop : goal.invariant-loop
invariant-loop l = record { size : l.self.size ≡ l.fn.self.size; vertex : l.v < l.self.size }
