-- Whatever adds up over members of a list comes to no less for all than for those that are known.
use Rattle.std.proofs.Common.{ℕ, ◌≤◌, List, arith}
use Rattle.dutch_bracket.proofs.FixedPairs.{AddsUp, Beside}

pub no_less : {X : Type 0} (f : List X → ℕ) (known all : List X) → AddsUp f → Beside known all → f known ≤ f all
no_less f known all adds others = omega (arith, others.adds f adds)
