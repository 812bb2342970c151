-- How the searches of sets descent, one ascending half of places after another: a model that carries the search, and which a reader of the promises may pass by.
use Rattle.std.specs.Prelude.{ℕ, ◌+◌, ◌-◌, Bool, ◌||◌, ◌==◌, nat_lt, List, length, slice_index, if◌then◌else◌, Option}
use Rattle.dutch_sequence.specs.Trials.{Plan}

-- a half begins at 0, and goes on above the last number
unfoldable pub half_start : ℕ → List ℕ → ℕ
half_start half path =
    if (length path == 0) || (length path == half) then 0 else slice_index path (length path - 1) + 1

-- a number must leave room for those that follow it in its half
unfoldable pub half_stop : ℕ → ℕ → ℕ → List ℕ → ℕ
half_stop half first_count second_count path =
    if nat_lt (length path) half then first_count - (half - 1 - length path) else second_count - (half + half - 1 - length path)

-- two ascending lists of so many places each, below two counts
abbrev pub two_halves : ℕ → ℕ → ℕ → (List ℕ → ℕ → Bool) → (List ℕ → ℕ → Option ℕ) → Plan
two_halves half first_count second_count fits beyond = record {
  places = half + half;
  width = first_count + second_count;
  start = half_start half;
  stop = half_stop half first_count second_count;
  fits = fits;
  beyond = beyond;
}
