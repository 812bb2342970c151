-- The number of vertices stays, and the base is one of them.
use Rattle.std.proofs.Common.{◌≡◌, ◌<◌}
use Rattle.matching.proofs.forest.Forest.note_way.Given as goal

abbrev pub invariant-loop : goal.invariant-loop
invariant-loop l = record { size : l.self.size ≡ l.fn.self.size; base : l.base < l.self.size }
