-- The places of some players in the order of the lines.
use Rattle.std.specs.Prelude.{ℕ, Bool, ◌==◌, List}
use Rattle.std.specs.List.{list_any}

-- a place is one of some
abbrev pub is_place : List ℕ → ℕ → Bool
is_place places k = list_any (λ place. place == k) places
