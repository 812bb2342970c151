-- Why the players of a round cannot be paired out (C.04.3 A.9): some of them block, and the others fall into groups, too many of them odd.
use Rattle.std.specs.Prelude.{ℕ, ◌%◌, Bool, not, ◌&&◌, ◌==◌, List, length, slice_index}
use Rattle.std.specs.List.{list_any}
use Rattle.dual.specs.Prelude.{IsTooNarrow, is_of_odd_group}
use Rattle.dutch_arrangements.specs.Prelude.{numbers_from}
use Rattle.dutch_player.specs.Prelude.{Facts}
use Rattle.dutch_rounds.specs.Round.{everybody}
use Rattle.dutch_bracket.specs.Prelude.{seats_meet, seats_may_be_left}

-- a label for each seat, and the greatest one [with label]
pub record Barrier : Type 0 where
  pub labels : List ℕ
  pub most : ℕ

-- the label of a seat: 0 if its player blocks, else the number of its group [A.9]
abbrev pub label : Barrier → ℕ → ℕ
label barrier = slice_index barrier.labels

module _ (facts : Facts) where
  -- a barrier blocks a round: no two present players of different groups may meet, and more groups are odd than there are blocking players,
  -- and one more where somebody of an odd group may have the bye [A.9, C.1 to C.3]
  abbrev pub Blocks : Barrier → Type 0
  Blocks barrier = IsTooNarrow (seats_meet facts) (seats_may_be_left facts) (everybody facts) (label barrier) barrier.most

  -- one of an odd number of players would have the bye, and nobody may [C.2]
  abbrev pub lacks_bye : Bool
  lacks_bye = (length facts.seats % 2 == 1) && not (list_any (seats_may_be_left facts) (everybody facts))

  module _ (barrier : Barrier) where
    -- some player blocks [with label]
    abbrev pub has_blockers : Bool
    has_blockers = list_any (λ seat. label barrier seat == 0) (everybody facts)

    -- a seat stands in no group with one of higher rank
    abbrev pub is_first : ℕ → Bool
    is_first seat = not (list_any (λ other. label barrier other == label barrier seat) (numbers_from 0 seat))

    -- a seat is the first of an odd group [with label]
    abbrev pub opens_odd_group : ℕ → Bool
    opens_odd_group seat = is_of_odd_group (everybody facts) (label barrier) seat && is_first seat
