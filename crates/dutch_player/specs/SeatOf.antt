-- What a present player is, wherever their lists lie in memory.
use Rattle.dutch_player.specs.declared.seat.Seat.{Seat}
use Rattle.dutch_player.specs.Facts.{SeatFacts}

-- a seat by what stands in its fields
abbrev pub facts_in : Seat → SeatFacts
facts_in s = record { start = s.start; score = s.score; played = s.played.items; opponents = s.opponents.items; apart = s.apart.items; latest = s.latest; earlier = s.earlier; may_bye = s.may_bye }
