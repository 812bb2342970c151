-- What a round is paired from: the present players by rank, and how it comes from a report (C.04.3 A.2, A.7).
use Rattle.std.specs.Prelude.{ℕ, ◌+◌, ◌-◌, Bool, false, ◌&&◌, ◌||◌, ◌==◌, nat_lt, if◌then◌else◌, List, [], ◌∷◌, take, slice_index_or, Option, Some, None, option_map, Result, Ok, Err}
use Rattle.std.specs.Option.{ok_or, option_map_or}
use Rattle.trf16_report.specs.declared.cell.Colour.{Colour}
use Rattle.trf16_report.specs.declared.cell.Colour.TheVariants.{White}
use Rattle.trf16_report.specs.declared.kind.LineKind.TheVariants.{Xxa, Xxs, Rank}
use Rattle.trf16_report.specs.Prelude.{Entry, Sheet, rounds_played, unfinished, absent, apart_from, first_of, ranked_by, IsRankedBy}
use Rattle.trf16_report.specs.Outcomes.{◌>>=◌}
use Rattle.dutch_player.specs.declared.float.Float.{Float}
use Rattle.dutch_player.specs.declared.fault.FieldFault.{FieldFault}
use Rattle.dutch_player.specs.declared.fault.FieldFault.TheVariants.{Unfinished, Unsupported, RoundsUnknown, RoundsOver}
use Rattle.dutch_player.specs.Histories.{score, colours_played, opponents, may_bye, float_in}

-- a present player: start rank, score in half points, the colours of their games (the last game first), the start ranks of those whom they
-- have met, the start ranks of those from whom they are kept apart, their floats in the last round and in the one before it, and whether
-- they may have the bye [with Facts]
pub record SeatFacts : Type 0 where
  pub start : ℕ
  pub score : ℕ
  pub played : List Colour
  pub opponents : List ℕ
  pub apart : List ℕ
  pub latest : Option Float
  pub earlier : Option Float
  pub may_bye : Bool

-- what a round is paired from: the present players by rank, the number of the round, the total of rounds, and the initial colour [A.2, A.4,
-- A.6]
pub record Facts : Type 0 where
  pub seats : List SeatFacts
  pub round : ℕ
  pub total : ℕ
  pub initial : Colour

-- what stands behind the last seat: nobody
abbrev pub no_seat : SeatFacts
no_seat = record { start = 0; score = 0; played = []; opponents = []; apart = []; latest = None; earlier = None; may_bye = false }

-- a seat is a place in the order of ranks, from 0 [with Facts]
abbrev pub seat_at : Facts → ℕ → SeatFacts
seat_at facts seat = slice_index_or facts.seats seat no_seat

-- who has the better rank: the higher score, then the smaller start rank [A.2]
abbrev pub goes_before : SeatFacts → SeatFacts → Bool
goes_before a b = nat_lt b.score a.score || ((a.score == b.score) && nat_lt a.start b.start)

-- A.2: seats by rank
abbrev pub seats_by_rank : List SeatFacts → List SeatFacts
seats_by_rank = ranked_by goes_before

-- A.2: no seat goes before one that stands in front of it
abbrev pub IsRanked : List SeatFacts → Type 0
IsRanked = IsRankedBy goes_before

-- what the rounds that were paired make of a player
unfoldable pub seat_of : Sheet → Entry → SeatFacts
seat_of sheet entry =
    let rounds = rounds_played sheet in
    let cells = take rounds entry.cells in
    record {
      start = entry.start;
      score = score sheet.bye cells;
      played = colours_played cells;
      opponents = opponents cells;
      apart = apart_from sheet entry.start;
      latest = float_in sheet cells rounds;
      earlier = float_in sheet cells (rounds - 1);
      may_bye = may_bye cells;
    }

-- the seats of those who are not absent from the next round, in the order of their lines
abbrev pub seats_of : Sheet → List Entry → List SeatFacts
seats_of sheet [] = []
seats_of sheet (entry ∷ rest) = if absent sheet entry.start then seats_of sheet rest else seat_of sheet entry ∷ seats_of sheet rest

-- the initial colour: the one that the caller asks for, else the report's, else white [E.5; own]
abbrev pub initial_of : Sheet → Option Colour → Colour
initial_of sheet (Some colour) = colour
initial_of sheet None = option_map_or (λ colour. colour) sheet.initial White

-- the total of rounds: the one that is asked for, else the report's (our own choice)
abbrev pub total_of : Sheet → Option ℕ → Option ℕ
total_of sheet (Some total) = Some total
total_of sheet None = sheet.total

-- the first line that changes what is paired: by points, by pairings or by the ranking (our own choice: none is supported)
abbrev pub unsupported : Sheet → Option ℕ
unsupported sheet = first_of (Xxa ∷ Xxs ∷ Rank ∷ []) sheet

-- a fault, if its cause is there
abbrev pub fault_if : Option FieldFault → Result (Unit {0}) FieldFault
fault_if None = Ok tt
fault_if (Some fault) = Err fault

-- the total of rounds that the caller asks for, else the report's; or the first reason why the round cannot be paired: a game without a
-- result, a line XXA, XXS or XXC with rank, no total, all rounds played [own]
unfoldable pub total_for : Sheet → Option ℕ → Result ℕ FieldFault
total_for sheet asked = do
  _ ← fault_if (option_map (λ at'. Unfinished at'.0 at'.1) (unfinished sheet))
  _ ← fault_if (option_map (λ line. Unsupported line) (unsupported sheet))
  total ← ok_or (total_of sheet asked) RoundsUnknown
  if nat_lt total (rounds_played sheet + 1) then Err RoundsOver else Ok total

-- what the next round of a report is paired from, those who are not absent from it, each by their rounds so far; or why it cannot be paired
-- [A.2; own]
unfoldable pub facts_of : Sheet → Option ℕ → Option Colour → Result Facts FieldFault
facts_of sheet asked initial = do
  total ← total_for sheet asked
  Ok (record { seats = seats_by_rank (seats_of sheet sheet.players); round = rounds_played sheet + 1; total = total; initial = initial_of sheet initial })
