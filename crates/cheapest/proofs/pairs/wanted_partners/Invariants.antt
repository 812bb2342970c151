-- There is a place for each vertex so far.
use Rattle.std.proofs.Common.{◌≡◌, vec_len}
use Rattle.cheapest.proofs.pairs.wanted_partners.Given as goal

abbrev pub invariant-loop-v : goal.invariant-loop-v
invariant-loop-v g l = vec_len l.wanted ≡ l.v
