-- What a report says: its lines that are carried, and its players.
use Rattle.std.specs.Prelude.{ℕ, ◌+◌, ◌-◌, Bool, true, false, ◌==◌, nat_lt, max, if◌then◌else◌, List, [], ◌∷◌, ◌++◌, Option, None, Some, slice_index_or, take, sum_by}
use Rattle.std.specs.List.{list_any}
use Rattle.trf16_report.specs.declared.player.Player.{Player}
use Rattle.trf16_report.specs.declared.cell.Colour.{Colour}
use Rattle.trf16_report.specs.declared.cell.GameOutcome.{GameOutcome}
use Rattle.trf16_report.specs.declared.cell.GameOutcome.TheVariants.{Win, Draw, Loss}
use Rattle.trf16_report.specs.declared.cell.Bye.{Bye as ByeKind}
use Rattle.trf16_report.specs.declared.cell.Bye.TheVariants.{Half, Full, Allocated, Zero}
use Rattle.trf16_report.specs.declared.cell.Cell.{Cell}
use Rattle.trf16_report.specs.declared.cell.Cell.TheVariants.{Blank, Bye, Game, Forfeit, Unfinished}

-- what the line of a player says: the start rank, the line's number, the points field in half points, the carried columns 9 to 80 and 85 to
-- 89 without the blanks at their ends, and the cells up to the last that is not blank [TRF16, line 001]
pub record Entry : Type 0 where
  pub start : ℕ
  pub line : ℕ
  pub points : Option ℕ
  pub left : List ℕ
  pub right : List ℕ
  pub cells : List Cell

-- a report: whether its columns are characters, each of its lines that is carried (none at the line of a player), its players in the order
-- of their lines, the total of rounds where a line XXR names it, the initial colour where a line XXC names it, and how many half points the
-- pairing-allocated bye gives [TRF16]
pub record Sheet : Type 0 where
  pub utf8 : Bool
  pub carried : List (Option (List ℕ))
  pub players : List Entry
  pub total : Option ℕ
  pub initial : Option Colour
  pub bye : ℕ

-- what a player is, wherever it lies in memory [with Entry]
abbrev pub entry_of : Player → Entry
entry_of p = record { start = p.start; line = p.line; points = p.points; left = p.left.now; right = p.right.now; cells = p.cells.items }

-- a report with one more player [own]
abbrev pub with_player : Sheet → Entry → Sheet
with_player sheet entry = record sheet { players = sheet.players ++ entry ∷ [] }

-- whether a start rank is that of a player [TRF16, columns 5 to 8]
abbrev pub known : Sheet → ℕ → Bool
known sheet start = list_any (λ entry. entry.start == start) sheet.players

-- a line that is carried, which counts from 1; none at the line of a player and behind the last line [own]
abbrev pub carried_in : Sheet → ℕ → Option (List ℕ)
carried_in sheet n = slice_index_or sheet.carried (n - 1) None

-- the cell of a round, which counts from 1; past the last it is blank [with cell_in]
abbrev pub cell_at : List Cell → ℕ → Cell
cell_at cells round = slice_index_or cells (round - 1) Blank

-- the cells of the player with a start rank; none where no player has it [with cell_in]
abbrev pub cells_of : List Entry → ℕ → List Cell
cells_of [] start = []
cells_of (entry ∷ rest) start = if entry.start == start then entry.cells else cells_of rest start

-- the cell of a player in a round [TRF16]
abbrev pub cell_in : Sheet → ℕ → ℕ → Cell
cell_in sheet start round = cell_at (cells_of sheet.players start) round

-- whether a cell names an opponent or is the pairing-allocated bye
abbrev pub is_paired : Cell → Bool
is_paired Blank = false
is_paired (Bye Half) = false
is_paired (Bye Full) = false
is_paired (Bye Allocated) = true
is_paired (Bye Zero) = false
is_paired (Game opponent colour rated got) = true
is_paired (Forfeit opponent colour won) = true
is_paired (Unfinished opponent colour) = true

-- the last round in which one of some cells is paired, or 0
abbrev pub last_paired : List Cell → ℕ
last_paired [] = 0
last_paired (cell ∷ rest) = if nat_lt 0 (last_paired rest) then last_paired rest + 1 else (if is_paired cell then 1 else 0)

-- the last round in which some player is paired, or 0
abbrev pub last_paired_of : List Entry → ℕ
last_paired_of [] = 0
last_paired_of (entry ∷ rest) = max (last_paired entry.cells) (last_paired_of rest)

-- how many rounds were paired: up to the last in which some cell names an opponent or is U [own]
abbrev pub rounds_played : Sheet → ℕ
rounds_played sheet = last_paired_of sheet.players

-- the half points of a game that was played
abbrev pub outcome_points : GameOutcome → ℕ
outcome_points Win = 2
outcome_points Draw = 1
outcome_points Loss = 0

-- the half points of a cell with an opponent: a forfeit win gives 2, a game without a result none; other cells give none here [with
-- half_points]
abbrev pub game_points : Cell → ℕ
game_points Blank = 0
game_points (Bye kind) = 0
game_points (Game opponent colour rated got) = outcome_points got
game_points (Forfeit opponent colour won) = if won then 2 else 0
game_points (Unfinished opponent colour) = 0

-- the half points of a round without an opponent, where U gives so many: H gives 1, F gives 2, and Z none
abbrev pub bye_points : ℕ → ByeKind → ℕ
bye_points bye Half = 1
bye_points bye Full = 2
bye_points bye Allocated = bye
bye_points bye Zero = 0

-- the half points of a cell: a win, a forfeit win and F give 2, a draw and H give 1, U gives what the pairing-allocated bye is worth, and
-- all else gives none [TRF16; own]
abbrev pub half_points : ℕ → Cell → ℕ
half_points bye (Bye kind) = bye_points bye kind
half_points bye cell = game_points cell

-- the half points of a player in the rounds from 1 up to a given one [TRF16]
abbrev pub points_upto : Sheet → ℕ → ℕ → ℕ
points_upto sheet start upto = sum_by (half_points sheet.bye) (take upto (cells_of sheet.players start))

-- the opponent that a cell names, in a forfeit too [TRF16, columns 92 to 97]
abbrev pub opponent_in_cell : Cell → Option ℕ
opponent_in_cell Blank = None
opponent_in_cell (Bye bye) = None
opponent_in_cell (Game opponent colour rated got) = Some opponent
opponent_in_cell (Forfeit opponent colour won) = Some opponent
opponent_in_cell (Unfinished opponent colour) = Some opponent

-- the colour that a cell names [with opponent_in_cell]
abbrev pub colour_in_cell : Cell → Option Colour
colour_in_cell Blank = None
colour_in_cell (Bye bye) = None
colour_in_cell (Game opponent colour rated got) = Some colour
colour_in_cell (Forfeit opponent colour won) = colour
colour_in_cell (Unfinished opponent colour) = Some colour
