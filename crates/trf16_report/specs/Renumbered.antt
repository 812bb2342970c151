-- A report with other start ranks: under any map of numbers, and by rating, title and the old start rank.
use Rattle.std.specs.Prelude.{ℕ, zero, suc, ◌+◌, Bool, ◌||◌, if◌then◌else◌, List, [], ◌∷◌, ◌++◌, map, count_by, codes, Option, option_map}
use Rattle.std.specs.List.{flat_map}
use Rattle.std.specs.Option.{option_map_or}
use Rattle.std.specs.Fmt.{decimal}
use Rattle.std.specs.Str.{byte}
use Rattle.trf16_report.specs.Lines.{columns, text}
use Rattle.trf16_report.specs.Fields.{number_of}
use Rattle.trf16_report.specs.Extensions.{is_kind, words_of}
use Rattle.trf16_report.specs.Sheet.{Entry, Sheet}
use Rattle.trf16_report.specs.Names.{player_of}
use Rattle.trf16_report.specs.Absence.{first_at}
use Rattle.trf16_report.specs.Ratings.{goes_before}
use Rattle.trf16_report.specs.declared.cell.Cell.{Cell}
use Rattle.trf16_report.specs.declared.cell.Cell.TheVariants.{Blank, Bye, Game, Forfeit, Unfinished}

-- ---- under a map of numbers, which is 0 where a number has no new one

-- a cell that names the new number of its opponent [with renumbered]
abbrev pub renumbered_cell : (ℕ → ℕ) → Cell → Cell
renumbered_cell new Blank = Blank
renumbered_cell new (Bye bye) = Bye bye
renumbered_cell new (Game opponent colour rated got) = Game (new opponent) colour rated got
renumbered_cell new (Forfeit opponent colour won) = Forfeit (new opponent) colour won
renumbered_cell new (Unfinished opponent colour) = Unfinished (new opponent) colour

-- a player with a new start rank, and new opponents
abbrev pub renumbered_entry : (ℕ → ℕ) → Entry → Entry
renumbered_entry new entry = record entry { start = new entry.start; cells = map (renumbered_cell new) entry.cells }

-- a number behind a blank; nothing of 0
abbrev pub number_behind : ℕ → List ℕ
number_behind zero = []
number_behind (suc n) = byte " " ∷ decimal (suc n)

-- the new number that a word names, behind a blank; nothing where it has none
abbrev pub renumbered_word : (ℕ → ℕ) → List ℕ → List ℕ
renumbered_word new word = option_map_or (λ n. number_behind (new n)) (number_of word) []

-- a line that names start ranks: XXZ or XXP
abbrev pub names_start_ranks : List (List ℕ) → Bool
names_start_ranks line = is_kind (codes "XXZ") line || is_kind (codes "XXP") line

-- a line XXZ or XXP with the new numbers of those that have one, each behind a blank, behind its first three columns; other lines as they
-- stand [with renumbered]
abbrev pub renumbered_line : Bool → (ℕ → ℕ) → List ℕ → List ℕ
renumbered_line utf8 new line =
    let cols = columns utf8 line in
    if names_start_ranks cols then text cols 1 3 ++ flat_map (renumbered_word new) (words_of cols) else line

-- a report under a map of numbers
abbrev pub renumbered_by : (ℕ → ℕ) → Sheet → Sheet
renumbered_by new sheet = record sheet {
  carried = map (option_map (renumbered_line sheet.utf8 new)) sheet.carried;
  players = map (renumbered_entry new) sheet.players;
}

-- ---- by rating, title and the old start rank

-- the new start rank of a player: one more than how many players go before them
abbrev pub rank_among : Bool → List Entry → Entry → ℕ
rank_among utf8 players entry = count_by (λ other. goes_before utf8 other entry) players + 1

-- the new start rank of the player with an old one, which is one more than how many go before them; 0 where no player has the old one
-- [C.04.2]
abbrev pub new_start : Sheet → ℕ → ℕ
new_start sheet start = option_map_or (rank_among sheet.utf8 sheet.players) (player_of sheet.players start) 0

-- a report with the new start ranks in place of the old ones, of players and of opponents [own]
abbrev pub renumbered : Sheet → Sheet
renumbered sheet = renumbered_by (new_start sheet) sheet

-- ---- lines that keep a report from being renumbered

-- a line that names players in a way that is not read: 013, which names the players of a team, or XXA, which names one [with first_unread]
abbrev pub names_unread : List (List ℕ) → Bool
names_unread line = is_kind (codes "013") line || is_kind (codes "XXA") line

-- the number of the first line that names players in a way that is not read, from 1 [own]
abbrev pub first_unread : Sheet → Option ℕ
first_unread sheet = first_at names_unread sheet.utf8 1 sheet.carried
