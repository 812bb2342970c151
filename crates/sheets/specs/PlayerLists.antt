-- The section of the players.
use Rattle.std.specs.Prelude.{ℕ, List, [], ◌∷◌, codes}
use Rattle.std.specs.Fmt.{decimal}
use Rattle.markup.specs.Prelude.{Node}
use Rattle.markup.specs.Nodes.Node.{Beside}
use Rattle.trf16_report.specs.Prelude.{Sheet}
use Rattle.sheets.specs.Orders.{by_start}
use Rattle.sheets.specs.Parts.{cell, column_head, each, row, section, table}
use Rattle.sheets.specs.Persons.{PersonFacts, person_in}

-- federation, rating and year of birth of a player
unfoldable pub person_behind : PersonFacts → Node
person_behind person = Beside (cell person.federation) (Beside (cell person.rating) (cell person.born))

-- a player: start rank, title, name, federation, rating and year of birth
unfoldable pub person_row : ℕ → PersonFacts → Node
person_row start person = row (decimal start) (Beside (cell person.title) (Beside (cell person.name) (person_behind person)))

-- the heads of the columns
abbrev pub player_heads : List (List ℕ)
player_heads = codes "No." ∷ codes "Title" ∷ codes "Name" ∷ codes "Federation" ∷ codes "Rating" ∷ codes "Born" ∷ []

-- the rows of players, in their order
abbrev pub player_rows : Sheet → List ℕ → Node
player_rows sheet starts = each (λ start. person_row start (person_in sheet start)) starts

-- the caption
unfoldable pub players_caption : List ℕ
players_caption = codes "All players by start rank"

-- the table of some players
unfoldable pub players_table : Sheet → List ℕ → Node
players_table sheet starts = table players_caption (each column_head player_heads) (player_rows sheet starts)

-- the players by start rank, each once [own]
unfoldable pub players_section : Sheet → Node
players_section sheet = section (codes "players") (codes "Players") (players_table sheet (by_start sheet))
