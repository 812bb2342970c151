-- What the inner functions put of a text, and what they make of the players, one step at a time.
use Rattle.std.specs.Prelude.{ℕ, ◌<◌, Bool, true, not, ◌&&◌, nat_eq, List, [], ◌∷◌, ◌++◌, Option, Some, None}
use Rattle.std.specs.List.{list_any}
use Rattle.std.specs.Str.{byte}
use Rattle.trf16_report.specs.Sheet.{Entry, Sheet, known}
use Rattle.trf16_report.specs.Absence.{absent}
use Rattle.trf16_report.specs.Written.{player_text}
use Rattle.trf16_report.specs.Round.{entry_with}
use Rattle.trf16_report.specs.Summed.{entry_summed}
use Rattle.trf16_report.specs.BeforeRound.{entry_back}
use Rattle.trf16_report.specs.declared.limits.TheConstants.{MOST_ROUNDS}
use Rattle.trf16_writer.specs.declared.turn.Turn.{Turn}
use Rattle.trf16_writer.specs.declared.turn.Turn.TheVariants.{Kept, Paired, Summed, TakenBack}

-- the line that is put next: one that is carried, or that of the next player
abbrev pub next_text : Bool → Option (List ℕ) → List Entry → List ℕ
next_text utf8 (Some line) players = line ++ (byte "\n" ∷ [])
next_text utf8 None [] = []
next_text utf8 None (entry ∷ players) = player_text utf8 entry ++ (byte "\n" ∷ [])

-- the players whose lines are put behind it
abbrev pub players_behind : Option (List ℕ) → List Entry → List Entry
players_behind (Some line) players = players
players_behind None [] = []
players_behind None (entry ∷ players) = players

-- a start rank is that of a player who is present, and none of some others
abbrev pub is_free : Sheet → List ℕ → ℕ → Bool
is_free sheet others start = known sheet start && (not (absent sheet start) && not (list_any (nat_eq start) others))

-- each of some start ranks is that of a player who is present, and none of those behind it
abbrev pub are_free : Sheet → List ℕ → Bool
are_free sheet [] = true
are_free sheet (start ∷ rest) = is_free sheet rest start && are_free sheet rest

-- a player as they are, with their cell of the next round and their points, with their points summed, or with only `before` rounds; so
-- many rounds were paired, and the pairing-allocated bye gives so many half points
abbrev pub entry_turned : Turn → ℕ → ℕ → Entry → Entry
entry_turned Kept bye rounds entry = entry
entry_turned (Paired boards) bye rounds entry = entry_with bye boards.now rounds entry
entry_turned Summed bye rounds entry = entry_summed bye rounds entry
entry_turned (TakenBack before) bye rounds entry = entry_back bye before entry

-- a round that is paired, or whose cells become what they were, is one that a report may have
abbrev pub IsWithin : Turn → ℕ → Type 0
IsWithin Kept rounds = Unit {0}
IsWithin (Paired boards) rounds = rounds < MOST_ROUNDS
IsWithin Summed rounds = Unit {0}
IsWithin (TakenBack before) rounds = before < MOST_ROUNDS
