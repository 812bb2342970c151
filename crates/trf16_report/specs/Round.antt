-- What a report is once its next round is paired: who meets whom in it, and the points so far.
use Rattle.std.specs.Prelude.{◌≡◌, ℕ, zero, suc, ◌+◌, ◌<◌, true, false, ◌==◌, nat_eq, if◌then◌else◌, List, [], ◌∷◌, map, take, sum_by, All, Option, Some, None, option_map}
use Rattle.std.specs.Option.{option_map_or}
use Rattle.std.specs.List.{IsDistinct}
use Rattle.trf16_report.specs.Sheet.{Entry, Sheet, known, half_points, rounds_played}
use Rattle.trf16_report.specs.Absence.{absent}
use Rattle.trf16_report.specs.declared.cell.Colour.TheVariants.{White, Black}
use Rattle.trf16_report.specs.declared.cell.Bye.TheVariants.{Allocated}
use Rattle.trf16_report.specs.declared.cell.Cell.{Cell}
use Rattle.trf16_report.specs.declared.cell.Cell.TheVariants.{Blank, Bye, Unfinished}
use Rattle.trf16_report.specs.declared.limits.TheConstants.{MOST_ROUNDS}

-- the start ranks that some boards name, white and then black; where black is 0, white has the bye [with CanBePaired]
abbrev pub named_by : List (ℕ × ℕ) → List ℕ
named_by [] = []
named_by (board ∷ rest) = if board.1 == 0 then board.0 ∷ named_by rest else board.0 ∷ board.1 ∷ named_by rest

-- some boards can be the next round: whoever they name is a player of the report, is present, and is named once; and no round comes behind
-- the last that a report may have [own]
pub record CanBePaired (boards : List (ℕ × ℕ)) (sheet : Sheet) : Type 0 where
  pub players : All (λ start. known sheet start ≡ true) (named_by boards)
  pub present : All (λ start. absent sheet start ≡ false) (named_by boards)
  pub once : IsDistinct nat_eq (named_by boards)
  pub within : rounds_played sheet < MOST_ROUNDS

-- what a board gives a player, if it names them: a game without a result yet, or the pairing-allocated bye
abbrev pub cell_on : ℕ × ℕ → ℕ → Option Cell
cell_on board start =
    if board.0 == start then Some (if board.1 == 0 then Bye Allocated else Unfinished board.1 White)
    else (if board.1 == start then Some (Unfinished board.0 Black) else None)

-- what the first of some boards that names a player gives them
abbrev pub cell_by : List (ℕ × ℕ) → ℕ → Option Cell
cell_by [] start = None
cell_by (board ∷ rest) start = option_map_or (λ cell. Some cell) (cell_on board start) (cell_by rest start)

-- some cells with that of the round behind the first `before` set; the rounds between are blank, and later ones stay
abbrev pub with_cell : ℕ → Cell → List Cell → List Cell
with_cell zero cell [] = cell ∷ []
with_cell zero cell (first ∷ rest) = cell ∷ rest
with_cell (suc before) cell [] = Blank ∷ with_cell before cell []
with_cell (suc before) cell (first ∷ rest) = first ∷ with_cell before cell rest

-- the cells of a player, where `before` rounds were paired and some boards are the next
abbrev pub cells_with : List (ℕ × ℕ) → ℕ → Entry → List Cell
cells_with boards before entry = option_map_or (λ cell. with_cell before cell entry.cells) (cell_by boards entry.start) entry.cells

-- a player with their cell of the next round; a points field that is not blank is the sum up to it, with the pairing-allocated
-- bye worth so many half points
abbrev pub entry_with : ℕ → List (ℕ × ℕ) → ℕ → Entry → Entry
entry_with bye boards before entry =
    let cells = cells_with boards before entry in
    record entry { points = option_map (λ _. sum_by (half_points bye) (take (before + 1) cells)) entry.points; cells = cells }

-- a report whose next round some boards are: whom a board names has a game without a result there, or U where black is 0; every points
-- field that is not blank is the sum up to that round; all else is as it was [TRF16; own]
abbrev pub with_round : List (ℕ × ℕ) → Sheet → Sheet
with_round boards sheet = record sheet { players = map (entry_with sheet.bye boards (rounds_played sheet)) sheet.players }
