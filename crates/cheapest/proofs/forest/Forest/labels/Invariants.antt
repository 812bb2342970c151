-- There is a label for each vertex so far.
use Rattle.std.proofs.Common.{◌≡◌, vec_len}
use Rattle.cheapest.proofs.forest.Forest.labels.Given as goal

abbrev pub invariant-loop-v : goal.invariant-loop-v
invariant-loop-v g l = vec_len l.labels ≡ l.v
