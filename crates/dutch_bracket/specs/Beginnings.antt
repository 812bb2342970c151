-- Beginnings of arrangements by the seats of a bracket: which pairs are fixed, and what is still free (C.04.3 B.6, B.7). What bounds
-- the choice by beginnings stands on these; a reader of its promise may pass them by.
use Rattle.std.specs.Prelude.{◌≡◌, ℕ, ◌+◌, ◌-◌, ◌*◌, ◌⊎◌, List, [], length, sum_by, ◌≤◌, Bool, true, false, ◌&&◌, nat_le}
use Rattle.dutch_arrangements.specs.declared.bracket.Shape.{Shape}
use Rattle.dutch_arrangements.specs.Prelude.{Arrangement, remainder_pairs, GoesOn, Beginning}
use Rattle.dutch_arrangements.specs.declared.prefix.Filling.{Filling}
use Rattle.dutch_arrangements.specs.declared.prefix.Filling.TheVariants.{ChoosingS1, S2, S2r}
use Rattle.dutch_sequence.specs.declared.numbers.TheConstants.{LIMIT}
use Rattle.dutch_player.specs.Prelude.{Facts}
use Rattle.dutch_bracket.specs.Reached.{Reached}
use Rattle.dutch_bracket.specs.Seated.{Seated, all_pairs, lowest}

-- an arrangement begins with the pairs of another; if S2 or S2R has begun, with the same S1 or S1R
pub record HasPairsOf (b a : Arrangement) : Type 0 where
  pub s1 : (b.s2 ≡ []) ⊎ (b.s1 ≡ a.s1)
  pub s2 : GoesOn b.s2 a.s2
  pub s1r : (b.s2r ≡ []) ⊎ (b.s1r ≡ a.s1r)
  pub s2r : GoesOn b.s2r a.s2r

-- an arrangement begins with another that lacks at most the end of S2R
pub record LacksEndOfS2r (b a : Arrangement) : Type 0 where
  pub s1 : b.s1 ≡ a.s1
  pub s2 : b.s2 ≡ a.s2
  pub s1r : b.s1r ≡ a.s1r
  pub s2r : GoesOn b.s2r a.s2r

-- what is known of an arrangement of a bracket by seats: some of its pairs and of its downfloaters
abbrev pub seated_so : Facts → Reached → List (ℕ × ℕ) → List ℕ → Seated
seated_so facts reached pairs down = record { pairs = pairs; down = down; lowest = lowest facts reached.seats }

-- what a beginning fixes by seats: its pairs alone [with fixed_lists]
abbrev pub fixed : Facts → Reached → Arrangement → Seated
fixed facts reached b = seated_so facts reached (all_pairs reached.seats b) []

-- what a weight of seats comes to in a pair
abbrev pub in_both : (ℕ → ℕ) → ℕ × ℕ → ℕ
in_both w pair = w pair.0 + w pair.1

-- what a weight of seats comes to for those who are in no pair of a beginning
abbrev pub free : (ℕ → ℕ) → Reached → Arrangement → ℕ
free w reached b = sum_by w reached.seats - sum_by (in_both w) (all_pairs reached.seats b)

-- how many free players can be served at most: the pairs to make, and the downfloaters in all
abbrev pub most_served : Reached → Shape → Arrangement → ℕ
most_served reached shape b = (shape.pairs - length (all_pairs reached.seats b)) + (length reached.seats - 2 * shape.pairs)

-- the lists that a beginning fixes
abbrev pub lists_by : Filling → Arrangement → Arrangement
lists_by ChoosingS1 lists = record { s1 = []; s2 = []; s1r = []; s2r = [] }
lists_by S2 lists = record { s1 = lists.s1; s2 = lists.s2; s1r = []; s2r = [] }
lists_by S2r lists = record { s1 = lists.s1; s2 = lists.s2; s1r = lists.s1r; s2r = lists.s2r }

-- the lists of a beginning up to the one that is being filled [B.6, B.7; own]
abbrev pub fixed_lists : Beginning → Arrangement
fixed_lists b = lists_by b.filling b.lists

-- lists that have room in a shape, and of those who meet the second is not the longer one [B.1]
abbrev pub is_of_shape : Shape → Arrangement → Bool
is_of_shape shape lists =
    (nat_le (length lists.s1) shape.mdps && nat_le (length lists.s2) (length lists.s1))
    && (nat_le (length lists.s1r) (remainder_pairs shape) && nat_le (length lists.s2r) (length lists.s1r))

-- S1 is chosen [with fixed_lists]
abbrev pub has_s1 : Filling → Bool
has_s1 ChoosingS1 = false
has_s1 S2 = true
has_s1 S2r = true

-- lists that make at most 1,024 pairs, where of those who meet the second is not the longer one [with is_of_shape]
pub record HasFewPairs (lists : Arrangement) : Type 0 where
  pub moved_down : length lists.s2 ≤ length lists.s1
  pub residents : length lists.s2r ≤ length lists.s1r
  pub few : length lists.s2 + length lists.s2r ≤ LIMIT
  pub few_first : length lists.s1r ≤ LIMIT
