-- The names of players.
use Rattle.std.specs.Prelude.{ℕ, Bool, ◌==◌, if◌then◌else◌, List, [], ◌∷◌, Option, Some, None}
use Rattle.std.specs.Option.{option_map_or}
use Rattle.trf16_report.specs.Lines.{columns, text}
use Rattle.trf16_report.specs.Fields.{without_blanks}
use Rattle.trf16_report.specs.Sheet.{Entry, Sheet}

-- the name in columns 15 to 47 of a player's line, without the blanks at its ends: what is carried of the line begins with column 9,
-- so these are its columns 7 to 39
abbrev pub name_of : Bool → Entry → List ℕ
name_of utf8 entry = without_blanks (text (columns utf8 entry.left) 7 39)

-- the player with a start rank [with name_in]
abbrev pub player_of : List Entry → ℕ → Option Entry
player_of [] start = None
player_of (entry ∷ rest) start = if entry.start == start then Some entry else player_of rest start

-- the name of the player with a start rank, without the blanks at its ends; empty where no player has it [TRF16, columns 15 to 47]
abbrev pub name_in : Sheet → ℕ → List ℕ
name_in sheet start = option_map_or (name_of sheet.utf8) (player_of sheet.players start) []
