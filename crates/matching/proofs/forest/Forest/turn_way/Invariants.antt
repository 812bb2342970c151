-- The number of vertices stays, and the way has come from one of them to another.
use Rattle.std.proofs.Common.{◌≡◌, ◌<◌}
use Rattle.matching.proofs.forest.Forest.turn_way.Given as goal

abbrev pub invariant-loop : goal.invariant-loop
invariant-loop l = record { size : l.self.size ≡ l.fn.self.size; outer : l.outer < l.self.size; from : l.from < l.self.size }
