-- How often a player stands in a list and in some pairs: what a witness is checked by. Only private functions' clauses cite these.
use Rattle.std.specs.Prelude.{◌≡◌, ℕ, ◌+◌, ◌==◌, List, count_by}

-- how often a player stands in a list
abbrev pub times : ℕ → List ℕ → ℕ
times v players = count_by (λ u. u == v) players

-- how often a player stands in some pairs and among others
abbrev pub times_named : ℕ → List (ℕ × ℕ) → List ℕ → ℕ
times_named v pairs others = count_by (λ pair. pair.0 == v) pairs + count_by (λ pair. pair.1 == v) pairs + times v others

-- a player stands in some pairs and among others as often as in a list
unfoldable pub StandsAsOften : List ℕ → List (ℕ × ℕ) → List ℕ → ℕ → Type 0
StandsAsOften players pairs others v = times_named v pairs others ≡ times v players
