-- The base is a vertex.
use Rattle.std.proofs.Common.{◌<◌}
use Rattle.matching.proofs.forest.Forest.meeting_node.Given as goal

abbrev pub invariant-loop : goal.invariant-loop
invariant-loop l = l.base < l.self.size
