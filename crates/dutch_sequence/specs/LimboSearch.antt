-- How sets of moved-down players are searched: a model that carries the search, and which a reader of the promises may pass by.
use Rattle.std.specs.Prelude.{ℕ, zero, suc, ◌+◌, ◌-◌, Bool, ◌&&◌, ◌||◌, not, ◌==◌, nat_lt, List, [], ◌∷◌, ◌++◌, map, drop, length, slice_index, slice_range, if◌then◌else◌, None}
use Rattle.dutch_sequence.specs.Trials.{Plan}
use Rattle.dutch_sequence.specs.Halves.{half_start, two_halves}

-- how they are searched: first the places of the first set with the same scores, then those of the set. A place of the first set
-- follows the last one, or is the first of its score
unfoldable pub leads : List ℕ → ℕ → List ℕ → ℕ → Bool
leads scores k path place = (place == half_start k path) || (place == 0) || not (slice_index scores (place - 1) == slice_index scores place)

-- how many places at the front of a list have a score
abbrev pub front_with : List ℕ → ℕ → List ℕ → ℕ
front_with scores score [] = 0
front_with scores score (place ∷ places) =
    if slice_index scores place == score then 1 + front_with scores score places else 0

-- how many of the places that follow in the first set have a score
abbrev pub same_ahead : List ℕ → ℕ → ℕ → List ℕ → ℕ
same_ahead scores k score path = front_with scores score (slice_range path (length path - k + 1) k)

-- a place of the set has the score of its place in the first set, and leaves as many of that score as must follow
unfoldable pub mirrors : List ℕ → ℕ → List ℕ → ℕ → Bool
mirrors scores k path place =
    (slice_index scores place == slice_index scores (slice_index path (length path - k)))
    && (slice_index scores (place + same_ahead scores k (slice_index scores (slice_index path (length path - k))) path)
    == slice_index scores (slice_index path (length path - k)))

-- the search: the places of the first set with the same scores, and then those of the set
abbrev pub limbo_plan : List ℕ → ℕ → Plan
limbo_plan scores k =
    two_halves k (length scores) (length scores)
    (λ path place. if nat_lt (length path) k then leads scores k path place else mirrors scores k path place)
    (λ path place. None)

-- the numbers of places, which count from 1
abbrev pub numbers_of : List ℕ → List ℕ
numbers_of places = map (λ place. place + 1) places

-- the set that a path has found
abbrev pub second_numbers : ℕ → List ℕ → List ℕ
second_numbers k path = numbers_of (drop k path)

-- the first place that has the score of a place, of so many before it from one on, or else that place
abbrev pub leader : List ℕ → ℕ → ℕ → ℕ → ℕ
leader scores place first zero = place
leader scores place first (suc count) =
    if slice_index scores first == slice_index scores place then first else leader scores place (suc first) count

-- the first set with the scores of a set of places, from a place on
abbrev pub leaders : List ℕ → ℕ → List ℕ → List ℕ
leaders scores first [] = []
leaders scores first (place ∷ places) =
    leader scores place first (place - first) ∷ leaders scores (suc (leader scores place first (place - first))) places

-- the places of numbers, which count from 1
abbrev pub places_of : List ℕ → List ℕ
places_of numbers = map (λ number. number - 1) numbers

-- the path that finds a set
abbrev pub limbo_path : List ℕ → List ℕ → List ℕ
limbo_path scores set = leaders scores 0 (places_of set) ++ places_of set
