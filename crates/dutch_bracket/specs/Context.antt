-- A bracket that a round reaches in its field, and the lower seats (C.04.3 A.3).
use Rattle.std.specs.Prelude.{◌≡◌, ℕ, List}
use Rattle.dutch_player.specs.Prelude.{Facts}
use Rattle.dutch_arrangements.specs.Prelude.{Frame}
use Rattle.dutch_bracket.specs.Reached.{Reached, IsAbove, frame_of}
use Rattle.dutch_bracket.specs.Brackets.{first_group, scoregroups}
use Rattle.dutch_bracket.specs.Seated.{lowest}

-- a field, a bracket of it, and the seats below that bracket, by rank [A.3]
pub record Context : Type 0 where
  pub facts : Facts
  pub reached : Reached
  pub lower : List ℕ

-- what has been read of a bracket above lower seats: the bracket by scores, the lowest of them, and the next lower scoregroup
pub record IsRead (facts : Facts) (reached : Reached) (lower : List ℕ) (frame : Frame) (least : ℕ) (next : List ℕ) : Type 0 where
  pub above : IsAbove facts reached lower
  pub frame_is : frame ≡ frame_of facts reached
  pub lowest_is : least ≡ lowest facts reached.seats
  pub next_is : next ≡ first_group facts (scoregroups facts lower)
