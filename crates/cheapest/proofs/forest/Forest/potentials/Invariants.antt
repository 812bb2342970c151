-- There is a potential for each vertex so far.
use Rattle.std.proofs.Common.{◌≡◌, vec_len}
use Rattle.cheapest.proofs.forest.Forest.potentials.Given as goal

abbrev pub invariant-loop-v : goal.invariant-loop-v
invariant-loop-v g l = vec_len l.potentials ≡ l.v
