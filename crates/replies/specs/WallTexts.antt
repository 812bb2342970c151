-- The boards and the standings for the wall: with names, in columns.
use Rattle.std.specs.Prelude.{ℕ, ◌+◌, ◌-◌, ◌==◌, if◌then◌else◌, List, [], ◌∷◌, ◌++◌, length, Option, codes}
use Rattle.std.specs.Fmt.{decimal}
use Rattle.tables.specs.Prelude.{RowFacts}
use Rattle.tables.specs.declared.key.Key.{Key}
use Rattle.trf16_report.specs.Prelude.{cell_in, name_in, Sheet, points_upto, rounds_played}
use Rattle.replies.specs.GameTexts.{games_labels}
use Rattle.replies.specs.Tables.{LabelFacts, left, right, table_text}
use Rattle.common_texts.specs.CellTexts.{result_mark}
use Rattle.common_texts.specs.KeyTexts.{value_text}
use Rattle.common_texts.specs.Texts.{halves_text, name_or_dash}

-- a player: start rank, name and score
unfoldable pub player_labels : Sheet → ℕ → ℕ → List LabelFacts
player_labels sheet start score = right (decimal start) ∷ left (name_or_dash (name_in sheet start)) ∷ right (halves_text score) ∷ []

-- ---- boards

-- a player of a round, with the score of the rounds before it, so many of them
abbrev pub paired_labels : Sheet → ℕ → ℕ → List LabelFacts
paired_labels sheet before start = player_labels sheet start (points_upto sheet start before)

-- who meets white: black, or where black is 0 nobody, since white has the bye
abbrev pub opponent_labels : Sheet → ℕ → ℕ → List LabelFacts
opponent_labels sheet before black = if black == 0 then right (codes "bye") ∷ [] else paired_labels sheet before black

-- a board behind its number: white and black
unfoldable pub board_labels : Sheet → ℕ → ℕ × ℕ → List LabelFacts
board_labels sheet before board = paired_labels sheet before board.0 ++ opponent_labels sheet before board.1

-- boards of the next round from a number on
abbrev pub boards_labels : Sheet → ℕ → List (ℕ × ℕ) → List (List LabelFacts)
boards_labels sheet number [] = []
boards_labels sheet number (board ∷ rest) =
    (right (decimal number) ∷ board_labels sheet (rounds_played sheet) board) ∷ boards_labels sheet (number + 1) rest

-- `pair --names`: of each board its number, white, and black or the word `bye` [own]
abbrev pub named_boards_text : Sheet → List (ℕ × ℕ) → List ℕ
named_boards_text sheet boards = table_text sheet.utf8 7 (boards_labels sheet 1 boards)

-- ---- boards of a round that was paired

-- the result of a board by the marks of white and of black; nothing where one of them has none
abbrev pub marks_labels : List ℕ → List ℕ → List LabelFacts
marks_labels [] black = []
marks_labels (white ∷ whites) [] = []
marks_labels (white ∷ whites) (black ∷ blacks) = right (white ∷ whites ++ (codes "-" ++ (black ∷ blacks))) ∷ []

-- the result of a board in a round
abbrev pub result_labels : Sheet → ℕ → ℕ × ℕ → List LabelFacts
result_labels sheet round board = marks_labels (result_mark (cell_in sheet board.0 round)) (result_mark (cell_in sheet board.1 round))

-- boards of a round from a number on, with the scores before the round, and the results
abbrev pub played_labels : Sheet → ℕ → ℕ → List (ℕ × ℕ) → List (List LabelFacts)
played_labels sheet round number [] = []
played_labels sheet round number (board ∷ rest) =
    (right (decimal number) ∷ board_labels sheet (round - 1) board ++ result_labels sheet round board) ∷ played_labels sheet round (number + 1) rest

-- `boards --names`: of each board of a round that was paired its number, white and black, their scores before it, and the result where both
-- have one [own]
abbrev pub played_boards_text : Sheet → ℕ → List (ℕ × ℕ) → List ℕ
played_boards_text sheet round boards = table_text sheet.utf8 8 (played_labels sheet round 1 boards)

-- ---- standings

-- the values of some keys, in their order
abbrev pub values_labels : List Key → List (Option ℕ) → List LabelFacts
values_labels [] values = []
values_labels (key ∷ keys) [] = []
values_labels (key ∷ keys) (value ∷ values) = right (value_text key value) ∷ values_labels keys values

-- a player's row behind their place: the player, and the values of the keys
unfoldable pub row_labels : Sheet → List Key → RowFacts → List LabelFacts
row_labels sheet keys row = player_labels sheet row.start row.score ++ values_labels keys row.values

-- rows from a place on, each with the player's games of so many rounds
abbrev pub rows_labels : Sheet → List Key → ℕ → ℕ → List RowFacts → List (List LabelFacts)
rows_labels sheet keys rounds place [] = []
rows_labels sheet keys rounds place (row ∷ rest) =
    (right (decimal place) ∷ row_labels sheet keys row ++ games_labels sheet row.start rounds) ∷ rows_labels sheet keys rounds (place + 1) rest

-- `standings --names`: of each row its place, player, values and games [own]
abbrev pub named_rows_text : Sheet → List Key → ℕ → List RowFacts → List ℕ
named_rows_text sheet keys rounds rows = table_text sheet.utf8 (4 + length keys + rounds) (rows_labels sheet keys rounds 1 rows)
