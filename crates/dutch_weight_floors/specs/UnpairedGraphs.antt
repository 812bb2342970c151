-- The players of a bracket, and all lower ones or those of the next lower scoregroup too, who are in none of some pairs, as a graph (C.04.3 C.1
-- to C.4, C.7). Only private functions' clauses cite these.
use Rattle.std.specs.Prelude.{ℕ, ◌≤◌, Bool, List, All, length, slice_index}
use Rattle.dutch_sequence.specs.declared.numbers.TheConstants.{LIMIT}
use Rattle.dutch_weight_floors.specs.ScopedCosts.{IsReached, Scoped, costs_in}

-- a bracket whose pairs are weighed in a scope, and numbers of some of its players, who are the vertices in this order
pub record UnpairedGraph : Type 0 where
  pub scoped : Scoped
  pub numbers : List ℕ

-- how many vertices there are
abbrev pub vertices : UnpairedGraph → ℕ
vertices graph = length graph.numbers

-- two vertices are joined if their players may meet in the arrangements of the scope
abbrev pub joined : UnpairedGraph → ℕ → ℕ → Bool
joined graph a b = (costs_in graph.scoped).meets (slice_index graph.numbers a) (slice_index graph.numbers b)

-- the numbers are of players over whom the matchings go, and not too many
pub record IsUnpairedGraph (graph : UnpairedGraph) : Type 0 where
  pub inside : All (IsReached graph.scoped) graph.numbers
  pub few : length graph.numbers ≤ LIMIT
