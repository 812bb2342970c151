-- Each call is about one edge less.
use Rattle.std.proofs.Common.{length}
use Rattle.graph_tests.proofs.matching_tests.+most_pairs.Given as goal

abbrev pub decreases-most_pairs : goal.decreases-most_pairs
decreases-most_pairs l = length l.edges.now
