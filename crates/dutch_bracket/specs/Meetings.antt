-- Seats of a list as vertices of a graph, joined if they may be paired (C.04.3 A.9, C.1 to C.3).
use Rattle.std.specs.Prelude.{ℕ, ◌+◌, ◌%◌, Bool, false, List, length, Option, Some, None}
use Rattle.std.specs.List.{slice_get}
use Rattle.dutch_player.specs.Prelude.{Facts}
use Rattle.dutch_bracket.specs.Seats.{seats_meet, seats_may_be_left}

-- seats of a field
pub record Meetings : Type 0 where
  pub facts : Facts
  pub players : List ℕ

-- a vertex for each seat of the list, by its place from 0, and of an odd number one more for the bye
abbrev pub vertices : Meetings → ℕ
vertices meetings = length meetings.players + length meetings.players % 2

-- two seats that may meet are joined, and each seat that may have the bye with whatever is no seat
abbrev pub joined_seats : Facts → Option ℕ → Option ℕ → Bool
joined_seats facts (Some a) (Some b) = seats_meet facts a b
joined_seats facts (Some a) None = seats_may_be_left facts a
joined_seats facts None (Some b) = seats_may_be_left facts b
joined_seats facts None None = false

-- two vertices are joined, by the seats that they stand for
abbrev pub joined : Meetings → ℕ → ℕ → Bool
joined meetings a b = joined_seats meetings.facts (slice_get meetings.players a) (slice_get meetings.players b)
