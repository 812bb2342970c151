-- A call: what is said stands in the caller's two rooms, as far as these go, and the caller is told how long it is.
use Rattle.std.specs.Prelude.{◌≡◌, ◌++◌, ℕ, List, drop, length, take}
use Rattle.arbiter_c.specs.Said.{IsSaid, Said}
use Rattle.replies.specs.Prelude.{code_of}

-- a room of the caller before and after a call, and the length that the caller is told [with IsCall]
pub record Room : Type 0 where
  pub before : List ℕ
  pub after : List ℕ
  pub told : ℕ

-- a text stands in a room as far as that goes, behind it the room is as it was, and the length of the whole text is told [with IsCall]
pub record Holds (text : List ℕ) (room : Room) : Type 0 where
  pub front : room.after ≡ take (length room.before) text ++ drop (length text) room.before
  pub whole : room.told ≡ length text

-- a call with words, one on each line of a text, over a report: its two texts stand in the two rooms, and it answers the number of its
-- status [own]
pub record IsCall (words report : List ℕ) (output message : Room) (number : ℕ) : Type 0 where
  pub said : Said
  pub is : IsSaid words report said
  pub printed : Holds said.output output
  pub complained : Holds said.message message
  pub ends : number ≡ code_of said.status
