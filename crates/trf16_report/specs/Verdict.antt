-- The verdict on a text: the report that it is, or the first rule that it breaks.
use Rattle.std.specs.Prelude.{ℕ, zero, suc, ◌+◌, ◌*◌, Bool, true, false, not, ◌&&◌, ◌||◌, ◌==◌, nat_lt, if◌then◌else◌, List, [], ◌∷◌, length, drop, map, codes, Option, Some, None, is_some, Result, Ok, Err}
use Rattle.std.specs.List.{list_any}
use Rattle.std.specs.Option.{ok_or, option_map_or}
use Rattle.std.specs.Str.{is_utf8, bytes_eq}
use Rattle.trf16_report.specs.Lines.{without_marks, lines, columns, joined, text, is_blank}
use Rattle.trf16_report.specs.Fields.{words, number_in, points_in, trimmed, without_last}
use Rattle.trf16_report.specs.Cells.{cell_from}
use Rattle.trf16_report.specs.Extensions.{is_kind, words_of, rounds_in, colour_in, are_start_ranks}
use Rattle.trf16_report.specs.Sheet.{Entry, Sheet, with_player, known}
use Rattle.trf16_report.specs.Outcomes.{◌>>=◌}
use Rattle.trf16_report.specs.Answering.{players_fit}
use Rattle.trf16_report.specs.declared.cell.Cell.{Cell}
use Rattle.trf16_report.specs.declared.cell.Cell.TheVariants.{Blank}
use Rattle.trf16_report.specs.declared.fault.Excess.TheVariants.{Bytes, Players, Rounds}
use Rattle.trf16_report.specs.declared.fault.Fault.{Fault}
use Rattle.trf16_report.specs.declared.fault.Fault.TheVariants.{BadNumber, Duplicate, Misaligned, BadCell, BadExtension, TooMany, NoPlayers}
use Rattle.trf16_report.specs.declared.limits.TheConstants.{MOST_PLAYERS, MOST_ROUNDS, MOST_BYTES, LAST_COLUMN}

-- column k of line n must be blank
unfoldable pub blank_at : ℕ → List (List ℕ) → ℕ → Result (Unit {0}) Fault
blank_at n line k = if is_blank (text line k k) then Ok tt else Err (Misaligned n k)

-- some columns of line n must be blank
unfoldable pub blanks_at : ℕ → List (List ℕ) → List ℕ → Result (Unit {0}) Fault
blanks_at n line [] = Ok tt
blanks_at n line (k ∷ others) = do
  _ ← blank_at n line k
  blanks_at n line others

-- columns 5 to 8: the start rank, 1 to 9999
unfoldable pub start_number_at : ℕ → List (List ℕ) → Result ℕ Fault
start_number_at n line = do
  start ← ok_or (number_in (words (text line 5 8))) (BadNumber n)
  if start == 0 then Err (BadNumber n) else Ok start

-- the start rank, which no earlier line has
unfoldable pub start_at : Sheet → ℕ → List (List ℕ) → Result ℕ Fault
start_at sheet n line = do
  start ← start_number_at n line
  if known sheet start then Err (Duplicate n) else Ok start

-- columns 81 to 84: the points, or blank
unfoldable pub points_at : ℕ → List (List ℕ) → Result (Option ℕ) Fault
points_at n line = ok_or (points_in (words (text line 81 84))) (BadNumber n)

-- the round that follows `before` others, in the ten columns behind the first 91 + 10 before: opponent in columns 1 to 4 of the ten, colour in
-- the sixth and result in the eighth, and the other four blank
unfoldable pub round_at : ℕ → List (List ℕ) → ℕ → Result Cell Fault
round_at n line before = do
  let at = 91 + 10 * before
  _ ← blanks_at n line ((at + 5) ∷ (at + 7) ∷ (at + 9) ∷ (at + 10) ∷ [])
  ok_or (cell_from (text line (at + 1) (at + 4)) (text line (at + 6) (at + 6)) (text line (at + 8) (at + 8))) (BadCell n (before + 1))

-- some rounds one after the other, of which `before` others stand in front
unfoldable pub rounds_at : ℕ → List (List ℕ) → ℕ → ℕ → Result (List Cell) Fault
rounds_at n line before zero = Ok []
rounds_at n line before (suc more) = do
  cell ← round_at n line before
  others ← rounds_at n line (before + 1) more
  Ok (cell ∷ others)

-- a cell that says nothing of its round [with cell_from]
abbrev pub is_blank_cell : Cell → Bool
is_blank_cell Blank = true
is_blank_cell _ = false

-- the rounds of a line up to the last that is not blank
unfoldable pub cells_at : ℕ → List (List ℕ) → Result (List Cell) Fault
cells_at n line = do
  cells ← rounds_at n line 0 MOST_ROUNDS
  Ok (without_last is_blank_cell cells)

-- what line 001 says, or the first of its rules that is broken: column 4 is blank; the start rank is 1 to 9999; no earlier line has it; the
-- points; columns 90 and 91 are blank; then round by round the blank columns and the cell [TRF16, line 001; own]
unfoldable pub player_at : Sheet → ℕ → List (List ℕ) → Result Entry Fault
player_at sheet n line = do
  _ ← blank_at n line 4
  start ← start_at sheet n line
  points ← points_at n line
  _ ← blanks_at n line (90 ∷ 91 ∷ [])
  cells ← cells_at n line
  Ok (record { start = start; line = n; points = points; left = trimmed (text line 9 80); right = trimmed (text line 85 89); cells = cells })

-- a line of the kind 001
abbrev pub is_player : List (List ℕ) → Bool
is_player line = bytes_eq (text line 1 3) (codes "001")

-- something stands behind the last round that there can be
abbrev pub is_too_long : List (List ℕ) → Bool
is_too_long line = not (is_blank (joined (drop LAST_COLUMN line)))

-- XXR: the number of rounds, which no earlier line has named
unfoldable pub rounds_onto : Sheet → ℕ → List (List ℕ) → Result Sheet Fault
rounds_onto sheet n line = do
  rounds ← ok_or (rounds_in (words_of line)) (BadExtension n)
  if is_some sheet.total then Err (Duplicate n) else Ok (record sheet { total = Some rounds })

-- XXC: the initial colour
unfoldable pub colour_onto : Sheet → ℕ → List (List ℕ) → Result Sheet Fault
colour_onto sheet n line = do
  initial ← ok_or (colour_in sheet.initial (words_of line)) (BadExtension n)
  Ok (record sheet { initial = initial })

-- XXZ and XXP: start ranks of those who are absent, or who do not meet
unfoldable pub start_ranks_onto : Sheet → ℕ → List (List ℕ) → Result Sheet Fault
start_ranks_onto sheet n line = if are_start_ranks (words_of line) then Ok sheet else Err (BadExtension n)

-- 001: a player
unfoldable pub player_onto : Sheet → ℕ → List (List ℕ) → Result Sheet Fault
player_onto sheet n line = do
  entry ← player_at sheet n line
  Ok (with_player sheet entry)

-- a report with what line n adds to it, or the fault of that line: 001 a player; XXR the total of rounds, which no earlier line may name;
-- XXC the initial colour; each other line, XXZ and XXP among them, only that it is carried [TRF16; own]
unfoldable pub line_onto : Sheet → ℕ → List (List ℕ) → Result Sheet Fault
line_onto sheet n line =
    if is_player line then player_onto sheet n line
    else (if is_kind (codes "XXR") line then rounds_onto sheet n line
    else (if is_kind (codes "XXC") line then colour_onto sheet n line
    else (if is_kind (codes "XXZ") line || is_kind (codes "XXP") line then start_ranks_onto sheet n line else Ok sheet)))

-- a report with what some lines add to it, of which the first is line n
unfoldable pub lines_onto : Sheet → ℕ → List (List ℕ) → Result Sheet Fault
lines_onto sheet n [] = Ok sheet
lines_onto sheet n (line ∷ rest) = do
  next ← line_onto sheet n (columns sheet.utf8 line)
  lines_onto next (n + 1) rest

-- a line as it is carried: not where it is a player's
abbrev pub carried_line : Bool → List ℕ → Option (List ℕ)
carried_line utf8 line = if is_player (columns utf8 line) then None else Some line

-- a report whose players are still to be read, where the pairing-allocated bye gives so many half points [own]
abbrev pub without_players : Bool → List (List ℕ) → ℕ → Sheet
without_players utf8 all bye =
    record { utf8 = utf8; carried = map (carried_line utf8) all; players = []; total = None; initial = None; bye = bye }

-- whether a player's line goes on behind the last round that is read
abbrev pub has_too_many_rounds : Bool → List (List ℕ) → Bool
has_too_many_rounds utf8 all = list_any (λ line. is_player (columns utf8 line) && is_too_long (columns utf8 line)) all

-- more rounds are named than there can be [own]
abbrev pub names_too_many_rounds : Sheet → Bool
names_too_many_rounds sheet = option_map_or (λ total. nat_lt MOST_ROUNDS total) sheet.total false

-- the report, where it is not too large and has players
unfoldable pub sized : Sheet → Bool → Result Sheet Fault
sized sheet too_long =
    if nat_lt MOST_PLAYERS (length sheet.players) then Err (TooMany Players)
    else (if too_long || names_too_many_rounds sheet then Err (TooMany Rounds)
    else (if length sheet.players == 0 then Err NoPlayers else Ok sheet))

-- the report that a text is before the rules on its players are looked at, or the first rule that it breaks: at most 1,048,576 bytes; the
-- faults of lines; at most 1,024 players; at most 64 rounds in the lines and on XXR; at least one player [TRF16; own]
unfoldable pub laid_out : List ℕ → ℕ → Result Sheet Fault
laid_out bytes bye =
    let utf8 = is_utf8 (without_marks bytes) in
    let all = lines (without_marks bytes) in
    if nat_lt MOST_BYTES (length bytes) then Err (TooMany Bytes)
    else (lines_onto (without_players utf8 all bye) 1 all >>= λ sheet. sized sheet (has_too_many_rounds utf8 all))

-- the report that a text is where the pairing-allocated bye gives so many half points, or the first rule that it breaks: those of
-- `laid_out`; then, player by player, the cells and the points [TRF16; own]
unfoldable pub verdict : List ℕ → ℕ → Result Sheet Fault
verdict bytes bye = do
  sheet ← laid_out bytes bye
  _ ← players_fit sheet sheet.players
  Ok sheet
