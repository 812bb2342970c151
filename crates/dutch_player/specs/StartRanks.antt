-- The seat of a player by their start rank.
use Rattle.std.specs.Prelude.{◌≡◌, ◌≢◌, ℕ, ◌<◌, Bool, ◌==◌, length, Option, Some, None}
use Rattle.std.specs.List.{position_from}
use Rattle.dutch_player.specs.Facts.{SeatFacts, Facts, seat_at}

-- a player has this start rank
abbrev pub has_start : ℕ → SeatFacts → Bool
has_start start seat = seat.start == start

-- the seat of a start rank; none if nobody present has it [own]
abbrev pub seat_with : Facts → ℕ → Option ℕ
seat_with facts start = position_from (has_start start) 0 facts.seats

-- what is said of the seat of a start rank: a seat of the field whose player has it; or no seat's player has it [with seat_with]
abbrev pub TellsSeat : Facts → ℕ → Option ℕ → Type 0
TellsSeat facts start (Some seat) = (seat < length facts.seats) × ((seat_at facts seat).start ≡ start)
TellsSeat facts start None = (seat : ℕ) → seat < length facts.seats → (seat_at facts seat).start ≢ start
