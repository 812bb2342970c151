-- The games of a player: that of the last round, and the rounds that the points field counts.
use Rattle.std.specs.Prelude.{ℕ, Bool, true, false, not, ◌&&◌, ◌==◌, nat_lt, List, take, sum_by}
use Rattle.std.specs.Option.{option_map_or}
use Rattle.trf16_report.specs.Prelude.{text, words, number_in, Entry, Sheet, cell_in, half_points, rounds_played}
use Rattle.trf16_report.specs.declared.cell.Cell.{Cell}
use Rattle.trf16_report.specs.declared.cell.Cell.TheVariants.{Game}

-- the start rank in columns 5 to 8 of a player's line; 0, which nobody has, where none stands there
abbrev pub start_in : List (List ℕ) → ℕ
start_in line = option_map_or (λ start. start) (number_in (words (text line 5 8))) 0

-- a game that was played; a forfeit is none
abbrev pub is_played : Cell → Bool
is_played (Game opponent colour rated got) = true
is_played _ = false

-- a player played in the last round that was paired
abbrev pub played_last : Sheet → ℕ → Bool
played_last sheet start = nat_lt 0 (rounds_played sheet) && is_played (cell_in sheet start (rounds_played sheet))

-- the points field of a player counts rounds to come: it is the sum over all rounds, and not over those that were paired
abbrev pub counts_to_come : Sheet → Entry → Bool
counts_to_come sheet entry =
    option_map_or (λ points.
    (points == sum_by (half_points sheet.bye) entry.cells)
    && not (points == sum_by (half_points sheet.bye) (take (rounds_played sheet) entry.cells)))
    entry.points false
