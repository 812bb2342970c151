-- What the next bracket can be (C.04.3 C.7) as a matching: the pairs of a candidate, and those of an arrangement of the next bracket that has
-- its value, by one numbering of the bracket and the next lower scoregroup.
use Rattle.std.specs.Prelude.{◌≡◌, ℕ, ◌+◌, ◌-◌, ◌*◌, ◌<◌, ◌≤◌, ◌⊎◌, true, List, ◌++◌, All, length, map, slice_index}
use Rattle.std.specs.List.{zip}
use Rattle.dual.specs.Prelude.{MakeUp}
use Rattle.dutch_arrangements.specs.declared.bracket.Shape.{Shape}
use Rattle.dutch_arrangements.specs.Prelude.{Arrangement, down, numbers_from, IsIn}
use Rattle.dutch_player.specs.Prelude.{Facts, may_meet}
use Rattle.dutch_bracket.specs.Quality.{NextValue, highest_first}
use Rattle.dutch_bracket.specs.QualityIn.{next_in}
use Rattle.dutch_bracket.specs.Reached.{Reached, frame_of}
use Rattle.dutch_bracket.specs.Brackets.{first_group, quality_of, scoregroups}
use Rattle.dutch_bracket.specs.Seated.{difference, difference_down, score_at, seat_of}

-- the next lower scoregroup [A.3]
abbrev pub group_below : Facts → List ℕ → List ℕ
group_below facts lower = first_group facts (scoregroups facts lower)

-- how many numbers the bracket and the next lower scoregroup have [with group_below]
abbrev pub count_below : Facts → Reached → List ℕ → ℕ
count_below facts reached lower = length reached.seats + length (group_below facts lower)

-- the seat of a number; behind those of the bracket come those of the next lower scoregroup [with group_below]
abbrev pub seat_below : Facts → Reached → List ℕ → ℕ → ℕ
seat_below facts reached lower = seat_of (reached.seats ++ group_below facts lower)

-- the score of the next lower scoregroup [with group_below]
abbrev pub score_below : Facts → List ℕ → ℕ
score_below facts lower = score_at facts (slice_index (group_below facts lower) 0)

-- the value of so many pairs of the next bracket, and of those who are in none of them
abbrev pub value_below : Facts → Reached → List ℕ → List (ℕ × ℕ) → List ℕ → NextValue
value_below facts reached lower pairs alone = record {
  pairs = length pairs;
  psd = highest_first (map (λ pair. difference facts (seat_below facts reached lower pair.0, seat_below facts reached lower pair.1)) pairs
      ++ map (λ a. difference_down facts (score_below facts lower) (seat_below facts reached lower a)) alone);
}

-- the pairs of an arrangement by number: S1 with S2, then S1R with S2R [with JoinsBelow]
abbrev pub number_pairs : Arrangement → List (ℕ × ℕ)
number_pairs a = zip a.s1 a.s2 ++ zip a.s1r a.s2r

-- a downfloater of an arrangement, or one of the next lower scoregroup [with JoinsBelow]
abbrev pub GoesBelow : Facts → Reached → Arrangement → ℕ → Type 0
GoesBelow facts reached a v = IsIn v (down (frame_of facts reached) a) ⊎ (length reached.seats < v)

-- two may be a pair of the next bracket: the second one is of the next lower scoregroup, and they may meet [C.1, C.3, C.7]
pub record MayPairBelow (facts : Facts) (reached : Reached) (lower : List ℕ) (a : Arrangement) (pair : ℕ × ℕ) : Type 0 where
  pub first : GoesBelow facts reached a pair.0
  pub second : length reached.seats < pair.1
  pub first_is : pair.0 ≤ count_below facts reached lower
  pub second_is : pair.1 ≤ count_below facts reached lower
  pub apart : ¬ (pair.0 ≡ pair.1)
  pub meet : may_meet facts (seat_below facts reached lower pair.0) (seat_below facts reached lower pair.1) ≡ true

-- pairs of the next bracket, and those of it who are in none, have the value that the next bracket can be at best; with the pairs of an
-- arrangement they are all numbers of the bracket and the next lower scoregroup [C.7]
pub record JoinsBelow (facts : Facts) (reached : Reached) (lower : List ℕ) (a : Arrangement) : Type 0 where
  pub pairs : List (ℕ × ℕ)
  pub alone : List ℕ
  pub whole : MakeUp (numbers_from 1 (count_below facts reached lower)) (number_pairs a ++ pairs) alone
  pub may_pair : All (MayPairBelow facts reached lower a) pairs
  pub stay : All (λ v. GoesBelow facts reached a v × (v ≤ count_below facts reached lower)) alone
  pub value : next_in (quality_of facts reached lower a) ≡ value_below facts reached lower pairs alone

-- a value of so many players has no more pairs than half of them, and no more differences than players, the highest first [C.7]
pub record IsSmall (players : ℕ) (next : NextValue) : Type 0 where
  pub pairs : 2 * next.pairs ≤ players
  pub differences : length next.psd ≤ players
  pub order : highest_first next.psd ≡ next.psd

-- the players of the next bracket: those whom an arrangement of a shape leaves over, and the next lower scoregroup [with IsSmall]
abbrev pub players_below : Facts → Reached → List ℕ → Shape → ℕ
players_below facts reached lower shape = (length reached.seats - 2 * shape.pairs) + length (group_below facts lower)
