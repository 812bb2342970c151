-- Lists of vertices that lead to vertices.
use Rattle.std.specs.Prelude.{◌≡◌, ◌<◌, ◌⊎◌, ℕ, List, length, Option, Some, None}
use Rattle.std.specs.List.{slice_get}

-- each vertex of a list leads to one of the list, or to none
abbrev pub StaysInside : List (Option ℕ) → Type 0
StaysInside ends = (v w : ℕ) → slice_get ends v ≡ Some (Some w) → w < length ends

-- where a vertex leads: to the one that the list gives it, or to itself if it gives none
abbrev pub LeadsTo : List (Option ℕ) → ℕ → ℕ → Type 0
LeadsTo ends v w = (slice_get ends v ≡ Some (Some w)) ⊎ ((slice_get ends v ≡ Some None) × (w ≡ v))
