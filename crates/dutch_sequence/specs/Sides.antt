-- How many numbers each side of an exchange has: a model that carries the search, and which a reader of the promises may pass by.
use Rattle.std.specs.Prelude.{ℕ, ◌-◌, List, length}
use Rattle.dutch_sequence.specs.declared.exchange.Side.{Side}
use Rattle.dutch_sequence.specs.declared.exchange.Side.TheVariants.{Out, In}

-- the original set has k numbers, the others are the rest of the pool
abbrev pub count_of : List ℕ → ℕ → Side → ℕ
count_of pool k Out = k
count_of pool k In = length pool - k
