-- What players add to costs where they are in S1R, so that what an arrangement costs tells of its place in the order of D.2 (C.04.3).
use Rattle.std.specs.Prelude.{◌≡◌, ℕ, ◌+◌, ◌-◌, ◌*◌, ◌^◌, ◌<◌, ◌≤◌, if◌then◌else◌, List, length, min, nat_lt, slice_index, slice_index_or}
use Rattle.dutch_arrangements.specs.Prelude.{is_member}

-- what a number of a bracket adds to a cost where it is in S1R: so many units for each number, and something more for each of them [D.2;
-- own]
pub record Order : Type 0 where
  pub unit : ℕ
  pub more : List ℕ

-- what is more of a number, 0 past the end
abbrev pub more_of : Order → ℕ → ℕ
more_of order x = slice_index_or order.more (x - 1) 0

-- D.2: what a number adds where it is in S1R
abbrev pub added_for : Order → ℕ → ℕ
added_for order x = order.unit * x + more_of order x

-- a table has what each of the first numbers adds, those from 1 on, and that is below 2^1024
abbrev pub AreAdded : Order → List ℕ → Type 0
AreAdded order table =
    (x : ℕ) → 0 < x → x ≤ length table → (slice_index table (x - 1) ≡ added_for order x) × (added_for order x < 2 ^ 1024)

-- of two players who meet, one at most is in S1R: the lesser of what both add
abbrev pub lesser : Order → ℕ → ℕ → ℕ
lesser order a b = min (added_for order a) (added_for order b)

-- a weight with that, if there is room for it
abbrev pub with_lesser : Order → ℕ → ℕ → ℕ → ℕ
with_lesser order w a b = if nat_lt (w + lesser order a b) (2 ^ 1024) then w + lesser order a b else w

-- the most that a number of the original S1R adds, if these are not in S1R: no more than its units if it is one of them
abbrev pub kept : Order → List ℕ → ℕ → ℕ
kept order barred x = order.unit * x + (if is_member x barred then 0 else more_of order x)

-- by how much one of the others, who is known to be in S1R, has less than the most
abbrev pub short_of : Order → ℕ → List ℕ → ℕ → ℕ
short_of order top held x = if is_member x held then top - more_of order x else 0

-- nobody adds anything
abbrev pub AddsNothing : Order → Type 0
AddsNothing order = (x : ℕ) → added_for order x ≡ 0
