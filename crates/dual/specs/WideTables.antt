-- Numbers by place, each kept once as a rule. Only private functions' clauses cite these.
use Rattle.std.specs.Prelude.{◌≡◌, ℕ, ◌<◌, List, length, map, slice_index}

-- the numbers of some places, by where they stand
abbrev pub numbers_at : List ℕ → List ℕ → List ℕ
numbers_at numbers indices = map (slice_index numbers) indices

-- a number stands at an index
abbrev pub IsAt : List ℕ → ℕ → ℕ → Type 0
IsAt numbers number index = (index < length numbers) × (slice_index numbers index ≡ number)

-- numbers that stand where they stood, with others
abbrev pub Extends : List ℕ → List ℕ → Type 0
Extends numbers more = (index : ℕ) → index < length numbers → IsAt more (slice_index numbers index) index
