-- Which games have no result yet.
use Rattle.std.specs.Prelude.{ℕ, ◌+◌, Bool, true, false, if◌then◌else◌, List, [], ◌∷◌, Option, Some, None}
use Rattle.std.specs.Option.{option_map_or}
use Rattle.trf16_report.specs.declared.cell.Cell.{Cell}
use Rattle.trf16_report.specs.declared.cell.Cell.TheVariants.{Unfinished}
use Rattle.trf16_report.specs.Sheet.{Entry, Sheet}

-- a game without a result yet [with unfinished]
abbrev pub is_unfinished : Cell → Bool
is_unfinished (Unfinished opponent colour) = true
is_unfinished _ = false

-- the first round, of which the first is numbered n, with a game that has no result; such a round was paired
abbrev pub first_unfinished : ℕ → List Cell → Option ℕ
first_unfinished n [] = None
first_unfinished n (cell ∷ rest) = if is_unfinished cell then Some n else first_unfinished (n + 1) rest

-- the start rank and the round of the first game without a result, by the order of the players' lines and then by round
abbrev pub unfinished_of : List Entry → Option (ℕ × ℕ)
unfinished_of [] = None
unfinished_of (entry ∷ rest) = option_map_or (λ round. Some (entry.start, round)) (first_unfinished 1 entry.cells) (unfinished_of rest)

-- the first game without a result yet, by the order of the players' lines and then by round [own]
abbrev pub unfinished : Sheet → Option (ℕ × ℕ)
unfinished sheet = unfinished_of sheet.players
