-- Lists in order of rank, by a test that says who goes before whom.
use Rattle.std.specs.Prelude.{◌≡◌, Bool, false, if◌then◌else◌, List, [], ◌∷◌}

-- one among others by rank, behind all that go before it
abbrev pub placed_by : {T : Type 0} → (T → T → Bool) → T → List T → List T
placed_by before x [] = x ∷ []
placed_by before x (first ∷ rest) = if before first x then first ∷ placed_by before x rest else x ∷ first ∷ rest

-- a list by rank, by a test of who goes before whom: each put to its place among the others, behind all that go before it [own]
abbrev pub ranked_by : {T : Type 0} → (T → T → Bool) → List T → List T
ranked_by before [] = []
ranked_by before (x ∷ rest) = placed_by before x (ranked_by before rest)

-- none of some goes before one [with ranked_by]
abbrev pub NoneBefore : {T : Type 0} → (T → T → Bool) → T → List T → Type 0
NoneBefore before x [] = Unit {0}
NoneBefore before x (other ∷ rest) = (before other x ≡ false) × NoneBefore before x rest

-- none goes before one that stands in front of it [with ranked_by]
abbrev pub IsRankedBy : {T : Type 0} → (T → T → Bool) → List T → Type 0
IsRankedBy before [] = Unit {0}
IsRankedBy before (x ∷ rest) = NoneBefore before x rest × IsRankedBy before rest
