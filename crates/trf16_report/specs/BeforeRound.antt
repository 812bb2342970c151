-- What a report was before one of its rounds was paired, as far as it tells.
use Rattle.std.specs.Prelude.{ℕ, zero, suc, ◌+◌, Bool, ◌&&◌, ◌==◌, nat_lt, if◌then◌else◌, List, map, take, sum_by, codes, Option, Some, None, option_map}
use Rattle.trf16_report.specs.Lines.{columns, text}
use Rattle.trf16_report.specs.Fields.{without_last}
use Rattle.trf16_report.specs.Extensions.{is_kind}
use Rattle.trf16_report.specs.Sheet.{Entry, Sheet, cell_at, half_points, is_paired, rounds_played}
use Rattle.trf16_report.specs.Round.{with_cell}
use Rattle.trf16_report.specs.Verdict.{is_blank_cell}
use Rattle.trf16_report.specs.declared.cell.Bye.TheVariants.{Zero}
use Rattle.trf16_report.specs.declared.cell.Cell.{Cell}
use Rattle.trf16_report.specs.declared.cell.Cell.TheVariants.{Blank, Bye}

-- what a cell of a round was before the round was paired: H, F and Z stay, a pairing was not made yet, and whom it left blank was absent,
-- which Z says [with taken_back]
abbrev pub cell_back : Cell → Cell
cell_back cell = if is_blank_cell cell then Bye Zero else (if is_paired cell then Blank else cell)

-- the cells of a player, of which those of `before` rounds stay, and the next is what it was; they end with the last that is not blank
abbrev pub cells_back : ℕ → List Cell → List Cell
cells_back before cells = without_last is_blank_cell (with_cell before (cell_back (cell_at cells (before + 1))) (take before cells))

-- a player of whom `before` rounds stay; a points field that is not blank is the sum over them, with the pairing-allocated bye worth
-- so many half points
abbrev pub entry_back : ℕ → ℕ → Entry → Entry
entry_back bye before entry = record entry {
  points = option_map (λ _. sum_by (half_points bye) (take before entry.cells)) entry.points;
  cells = cells_back before entry.cells;
}

-- a line that is carried: of a line XXZ its first three columns stay, and whom it names does not [with taken_back]
abbrev pub line_back : Bool → List ℕ → List ℕ
line_back utf8 line = if is_kind (codes "XXZ") (columns utf8 line) then text (columns utf8 line) 1 3 else line

-- a report of which all rounds behind the first `before` are taken back: cells by `cell_back`, carried lines by `line_back`, and every
-- points field that is not blank is the sum over the rounds that stay [own]
abbrev pub taken_back : Sheet → ℕ → Sheet
taken_back sheet before = record sheet {
  carried = map (option_map (line_back sheet.utf8)) sheet.carried;
  players = map (entry_back sheet.bye before) sheet.players;
}

-- a report as it stood before a round, which counts from 1: as it is before the round behind the last that was paired; before an earlier
-- one with that and all later ones taken back, if the last that was paired is then the one in front of it; and before any other there is
-- none [own]
abbrev pub before_round : Sheet → ℕ → Option Sheet
before_round sheet zero = None
before_round sheet (suc before) =
    if before == rounds_played sheet then Some sheet
    else (if nat_lt before (rounds_played sheet) && (rounds_played (taken_back sheet before) == before) then Some (taken_back sheet before) else None)
