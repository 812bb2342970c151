-- How transpositions are searched: a model that carries the search, and which a reader of the promises may pass by.
use Rattle.std.specs.Prelude.{ℕ, ◌+◌, Bool, not, ◌&&◌, ◌==◌, eqb, List, [], ◌∷◌, map, length, slice_index, if◌then◌else◌, None}
use Rattle.std.specs.List.{list_any}
use Rattle.dutch_sequence.specs.Trials.{Plan}

-- how transpositions are searched: at each place each place of the pool is tried, and fits if it is not taken yet and the two
-- players may meet
abbrev pub transposition_plan : (ℕ → ℕ → Bool) → List ℕ → List ℕ → Plan
transposition_plan meets first pool = record {
  places = length first;
  width = length pool;
  start = λ _. 0;
  stop = λ _. length pool;
  fits = λ path place. not (list_any (eqb place) path) && meets (slice_index first (length path)) (slice_index pool place);
  beyond = λ path place. None;
}

-- the numbers at the places of a path
abbrev pub numbers_at : List ℕ → List ℕ → List ℕ
numbers_at pool path = map (λ place. slice_index pool place) path

-- the place of a number in a pool
abbrev pub place_in : List ℕ → ℕ → ℕ
place_in [] number = 0
place_in (x ∷ pool) number = if x == number then 0 else 1 + place_in pool number

-- the places of the numbers of a list in a pool
abbrev pub places_in : List ℕ → List ℕ → List ℕ
places_in pool numbers = map (place_in pool) numbers
