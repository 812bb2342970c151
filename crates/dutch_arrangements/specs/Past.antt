-- Choices that may be passed over: a model that carries the listing, and which a reader of its promise may pass by.
use Rattle.std.specs.Prelude.{◌≡◌, ℕ, Bool, false, List}
use Rattle.dutch_arrangements.specs.Arrangements.{Arrangement}
use Rattle.dutch_arrangements.specs.Prefixes.{Beginning, Begins, with_list}

-- a tuple may be passed over, unless the very next one is wanted: each arrangement that begins with the lists that are chosen, and with
-- the tuple, is pruned
abbrev pub IsPassedTuple : (Arrangement → Type 0) → Beginning → Bool → List ℕ → Type 0
IsPassedTuple Pruned chosen very_next tuple = (very_next ≡ false) × ((a : Arrangement) → Begins (with_list chosen tuple) a → Pruned a)

-- and so of an S1R
abbrev pub IsPassedSet : (Arrangement → Type 0) → Beginning → Bool → List ℕ → Type 0
IsPassedSet Pruned chosen very_next s1r = (very_next ≡ false) × ((a : Arrangement) → Begins chosen a → s1r ≡ a.s1r → Pruned a)
