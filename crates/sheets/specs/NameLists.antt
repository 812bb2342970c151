-- Who sits where in a round, by name.
use Rattle.std.specs.Prelude.{ℕ, ◌+◌, ◌||◌, ◌==◌, if◌then◌else◌, List, [], ◌∷◌, ◌++◌, Option, Some, None, codes}
use Rattle.std.specs.Fmt.{decimal}
use Rattle.markup.specs.Prelude.{Node}
use Rattle.markup.specs.Nodes.Node.{Beside}
use Rattle.tables.specs.Prelude.{boards_of}
use Rattle.trf16_report.specs.Prelude.{Sheet, cell_in}
use Rattle.sheets.specs.Orders.{NamedFacts, by_name}
use Rattle.sheets.specs.Parts.{cell, column_head, each, name_cell, round_words, row, section, table}
use Rattle.sheets.specs.Persons.{person_in}
use Rattle.sheets.specs.Rounds.{why_text}

-- the board of a player among some, with its number, of which the first is n; none where the player has no board
abbrev pub board_with : ℕ → ℕ → List (ℕ × ℕ) → Option (ℕ × (ℕ × ℕ))
board_with start n [] = None
board_with start n (board ∷ rest) = if (board.0 == start) || (board.1 == start) then Some (n, board) else board_with start (n + 1) rest

-- the colour of a player at a board, and the opponent; where black is 0, that the player has the bye
abbrev pub place_part : Sheet → ℕ → ℕ × ℕ → Node
place_part sheet start board =
    if board.1 == 0 then Beside (cell []) (cell (codes "bye"))
    else (if board.0 == start then Beside (cell (codes "White")) (name_cell (person_in sheet board.1))
    else Beside (cell (codes "Black")) (name_cell (person_in sheet board.0)))

-- where a player sits: board, colour and opponent, or why they were not paired
abbrev pub sitting : Sheet → ℕ → ℕ → Option (ℕ × (ℕ × ℕ)) → Node
sitting sheet round start (Some found) = Beside (cell (decimal found.0)) (place_part sheet start found.1)
sitting sheet round start None = Beside (cell []) (Beside (cell []) (cell (why_text (cell_in sheet start round))))

-- the row of a player: name, and where they sit, given the boards of the round
unfoldable pub name_row : Sheet → ℕ → List (ℕ × ℕ) → ℕ → Node
name_row sheet round boards start = row (person_in sheet start).name (sitting sheet round start (board_with start 1 boards))

-- the heads of the columns
abbrev pub name_heads : List (List ℕ)
name_heads = codes "Name" ∷ codes "Board" ∷ codes "Colour" ∷ codes "Opponent" ∷ []

-- the rows of players in the order of their names, given the boards of the round
abbrev pub name_rows : Sheet → ℕ → List (ℕ × ℕ) → List NamedFacts → Node
name_rows sheet round boards players = each (λ (player : NamedFacts). name_row sheet round boards player.start) players

-- the caption
unfoldable pub names_caption : List ℕ
names_caption = codes "All players in the order of their names"

-- the table of players in the order of their names, given the boards of the round
unfoldable pub names_table : Sheet → ℕ → List (ℕ × ℕ) → List NamedFacts → Node
names_table sheet round boards players = table names_caption (each column_head name_heads) (name_rows sheet round boards players)

-- who sits where in a round, by name: each player once [own]
unfoldable pub names_section : Sheet → ℕ → Node
names_section sheet round =
    section (codes "names") (round_words round ++ codes " by name") (names_table sheet round (boards_of sheet round) (by_name sheet))
