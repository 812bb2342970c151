-- The marks of a path's numbers: a model that carries the search, and which a reader of the promises may pass by.
use Rattle.std.specs.Prelude.{ℕ, Bool, false, not, ◌==◌, ◌/◌, ◌%◌, List, [], ◌∷◌, slice_index, if◌then◌else◌}
use Rattle.std.specs.Int.{bit_at}

-- the mark of a number, a bit in words of 64
unfoldable pub has_mark : List ℕ → ℕ → Bool
has_mark marks number = bit_at (slice_index marks (number / 64)) (number % 64) == 1

-- a number comes an odd number of times in a list
abbrev pub stands_oddly : ℕ → List ℕ → Bool
stands_oddly number [] = false
stands_oddly number (x ∷ xs) = if x == number then not (stands_oddly number xs) else stands_oddly number xs
