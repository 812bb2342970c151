-- The section of a round: its boards, and who was not paired.
use Rattle.std.specs.Prelude.{ℕ, ◌-◌, ◌==◌, if◌then◌else◌, List, [], ◌∷◌, ◌++◌, codes}
use Rattle.std.specs.Fmt.{decimal}
use Rattle.common_texts.specs.Prelude.{halves_text, result_mark}
use Rattle.markup.specs.Prelude.{Node}
use Rattle.markup.specs.Nodes.Node.{Nothing, Text, Beside}
use Rattle.markup.specs.declared.tag.Tag.TheVariants.{Cell as DataCell}
use Rattle.markup.specs.declared.tag.AttributeName.TheVariants.{Colspan}
use Rattle.tables.specs.Prelude.{boards_of}
use Rattle.trf16_report.specs.declared.cell.Bye.TheVariants.{Half, Full}
use Rattle.trf16_report.specs.declared.cell.Cell.{Cell}
use Rattle.trf16_report.specs.declared.cell.Cell.TheVariants.{Bye}
use Rattle.trf16_report.specs.Prelude.{Sheet, cell_in, points_upto}
use Rattle.sheets.specs.HeadLines.{date_in}
use Rattle.sheets.specs.Orders.{not_paired}
use Rattle.sheets.specs.Parts.{cell, column_head, each, each_from, name_cell, round_name, round_words, row, section, table, with_one}
use Rattle.sheets.specs.Persons.{person_in}
use Rattle.sheets.specs.Texts.{joined_by}

-- a player of a round: start rank, name, and the score before the round
unfoldable pub seat : Sheet → ℕ → ℕ → Node
seat sheet round start =
    Beside (cell (decimal start)) (Beside (name_cell (person_in sheet start)) (cell (halves_text (points_upto sheet start (round - 1)))))

-- the result of a board by the marks of white and of black; nothing where one of them has none
abbrev pub marks_text : List ℕ → List ℕ → List ℕ
marks_text [] black = []
marks_text (white ∷ whites) [] = []
marks_text (white ∷ whites) (black ∷ blacks) = (white ∷ whites) ++ (codes "-" ++ (black ∷ blacks))

-- the result of a board in a round, as white and black have it
abbrev pub result_text : Sheet → ℕ → ℕ × ℕ → List ℕ
result_text sheet round board = marks_text (result_mark (cell_in sheet board.0 round)) (result_mark (cell_in sheet board.1 round))

-- no result, and that white has the bye
abbrev pub bye_part : Node
bye_part = Beside (cell []) (with_one DataCell Colspan (codes "3") (Text (codes "bye")))

-- the result and black; where black is 0, that white has the bye
abbrev pub opponent_part : Sheet → ℕ → ℕ × ℕ → Node
opponent_part sheet round board =
    if board.1 == 0 then bye_part
    else Beside (cell (result_text sheet round board)) (seat sheet round board.1)

-- a board of a round: its number, white, the result and black [own]
unfoldable pub board_row : Sheet → ℕ → ℕ → ℕ × ℕ → Node
board_row sheet round number board = row (decimal number) (Beside (seat sheet round board.0) (opponent_part sheet round board))

-- the rows of the boards of a round: those of `boards_of`, each once, in their order, with their numbers [own]
abbrev pub board_rows : Sheet → ℕ → List (ℕ × ℕ) → Node
board_rows sheet round boards = each_from (board_row sheet round) 1 boards

-- the heads of the columns of boards
abbrev pub board_heads : List (List ℕ)
board_heads = codes "Board" ∷ codes "No." ∷ codes "White" ∷ codes "Pts" ∷ codes "Result" ∷ codes "No." ∷ codes "Black" ∷ codes "Pts" ∷ []

-- the caption of the boards of a round
unfoldable pub boards_caption : List ℕ
boards_caption = codes "The boards, with the points before the round"

-- the table of the boards of a round [own]
unfoldable pub boards_table : Sheet → ℕ → List (ℕ × ℕ) → Node
boards_table sheet round boards = table boards_caption (each column_head board_heads) (board_rows sheet round boards)

-- why a player was not paired, by their cell of the round: a bye that was asked for, with what it gives, or absent
abbrev pub why_text : Cell → List ℕ
why_text (Bye Half) = codes "half-point bye"
why_text (Bye Full) = codes "full-point bye"
why_text other = codes "absent"

-- a player who was not paired in a round: start rank, name, the score before the round, and why
unfoldable pub absent_row : Sheet → ℕ → ℕ → Node
absent_row sheet round start =
    row (decimal start)
    (Beside (name_cell (person_in sheet start)) (Beside (cell (halves_text (points_upto sheet start (round - 1)))) (cell (why_text (cell_in sheet start round)))))

-- the heads of the columns of those who were not paired
abbrev pub absent_heads : List (List ℕ)
absent_heads = codes "No." ∷ codes "Name" ∷ codes "Pts" ∷ codes "Why" ∷ []

-- the table of those who were not paired in a round; nothing where all were
abbrev pub absent_table : Sheet → ℕ → List ℕ → Node
absent_table sheet round [] = Nothing
absent_table sheet round (first ∷ rest) = table (codes "Not paired") (each column_head absent_heads) (each (absent_row sheet round) (first ∷ rest))

-- the heading of a round: its number, and its date where line 132 has one
abbrev pub round_heading : Sheet → List ℕ → ℕ → List ℕ
round_heading sheet dates round = joined_by (codes ", ") (round_words round) (date_in sheet.utf8 dates round)

-- the section of a round, given the line of the dates [own]
unfoldable pub round_section : Sheet → List ℕ → ℕ → Node
round_section sheet dates round =
    section (round_name round) (round_heading sheet dates round) (Beside (boards_table sheet round (boards_of sheet round)) (absent_table sheet round (not_paired sheet round)))
