-- The section of the standings.
use Rattle.std.specs.Prelude.{ℕ, zero, suc, ◌+◌, Bool, ◌||◌, ◌==◌, nat_le, if◌then◌else◌, List, [], ◌∷◌, ◌++◌, Option, Some, None, Result, Ok, Err, codes}
use Rattle.std.specs.Fmt.{decimal}
use Rattle.std.specs.List.{list_any}
use Rattle.common_texts.specs.Prelude.{game_text, halves_text, value_text}
use Rattle.markup.specs.Prelude.{Node}
use Rattle.markup.specs.Nodes.Node.{Nothing, Text, Beside}
use Rattle.markup.specs.declared.tag.Tag.TheVariants.{Paragraph, Cell as DataCell}
use Rattle.tables.specs.Prelude.{RowFacts, standings_of}
use Rattle.tables.specs.declared.fault.TieFault.{TieFault}
use Rattle.tables.specs.declared.key.Key.{Key}
use Rattle.tables.specs.declared.key.Key.TheVariants.{Direct, Buchholz, SonnebornBerger}
use Rattle.trf16_report.specs.Prelude.{Sheet, before_round, cell_at, cell_in, is_unfinished, rounds_played}
use Rattle.sheets.specs.Parts.{bare, cell, column_head, each, each_from, each_up, link, name_cell, round_name, row, section, table}
use Rattle.sheets.specs.Persons.{person_in}

-- whether a game of a round has no result yet
abbrev pub is_open : Sheet → ℕ → Bool
is_open sheet round = list_any (λ entry. is_unfinished (cell_at entry.cells round)) sheet.players

-- the first of some rounds, so many of them from one on, with a game without a result, or the round behind them
abbrev pub first_open : Sheet → ℕ → ℕ → ℕ
first_open sheet round zero = round
first_open sheet round (suc left) = if is_open sheet round then round else first_open sheet (round + 1) left

-- the round that the standings stand before: the first with a game without a result, else the one behind the last that was paired [own]
abbrev pub standings_round : Sheet → ℕ
standings_round sheet = first_open sheet 1 (rounds_played sheet)

-- the name of a key
abbrev pub key_name : Key → List ℕ
key_name Direct = codes "Direct encounter"
key_name Buchholz = codes "Buchholz"
key_name SonnebornBerger = codes "Sonneborn-Berger"

-- the values of some keys, in their order
abbrev pub value_cells : List Key → List (Option ℕ) → Node
value_cells [] values = Nothing
value_cells (key ∷ keys) [] = Nothing
value_cells (key ∷ keys) (value ∷ values) = Beside (cell (value_text key value)) (value_cells keys values)

-- what a player's cell of a round says, which leads to the round
unfoldable pub game_cell : Sheet → ℕ → ℕ → Node
game_cell sheet start round = bare DataCell (link (round_name round) (game_text (cell_in sheet start round)))

-- start rank, name and score of a player of the standings
unfoldable pub scored_cells : Sheet → RowFacts → Node
scored_cells sheet facts = Beside (cell (decimal facts.start)) (Beside (name_cell (person_in sheet facts.start)) (cell (halves_text facts.score)))

-- the games of a player in all rounds that were paired
unfoldable pub game_cells : Sheet → ℕ → Node
game_cells sheet start = each_up (game_cell sheet start) (rounds_played sheet)

-- a player of the standings: place, start rank, name, score, the values of the keys, and the games of all rounds that were paired [own]
unfoldable pub standings_row : Sheet → List Key → ℕ → RowFacts → Node
standings_row sheet keys place facts =
    row (decimal place) (Beside (scored_cells sheet facts) (Beside (value_cells keys facts.values) (game_cells sheet facts.start)))

-- the heads of the columns in front of the keys
abbrev pub standings_heads : List (List ℕ)
standings_heads = codes "Place" ∷ codes "No." ∷ codes "Name" ∷ codes "Pts" ∷ []

-- the heads of all columns: those in front, the keys, and the rounds
unfoldable pub all_heads : List Key → ℕ → Node
all_heads keys rounds =
    Beside (each column_head standings_heads)
    (Beside (each (λ (key : Key). column_head (key_name key)) keys) (each_up (λ round. column_head (decimal round)) rounds))

-- the rows of the standings: those of `standings_of`, each once, in their order, with their places [own]
abbrev pub standings_rows : Sheet → List Key → List RowFacts → Node
standings_rows sheet keys rows = each_from (standings_row sheet keys) 1 rows

-- the caption
unfoldable pub standings_caption : List ℕ
standings_caption = codes "The games of each round: the number of the opponent, the colour, and the result"

-- the table of the standings
unfoldable pub full_table : Sheet → List Key → List RowFacts → Node
full_table sheet keys rows = table standings_caption (all_heads keys (rounds_played sheet)) (standings_rows sheet keys rows)

-- that there are no standings
unfoldable pub no_standings : Node
no_standings = bare Paragraph (Text (codes "No standings can be made from this report."))

-- the table of the standings, or that there are none
abbrev pub rows_table : Sheet → List Key → Result (List RowFacts) TieFault → Node
rows_table sheet keys (Ok rows) = full_table sheet keys rows
rows_table sheet keys (Err fault) = no_standings

-- the standings of a report, if there is one that they go by
abbrev pub standings_table : List Key → Option Sheet → Node
standings_table keys (Some counted) = rows_table counted keys (standings_of counted keys)
standings_table keys None = no_standings

-- the heading of the standings before a round, where so many rounds were paired
unfoldable pub standings_heading : ℕ → ℕ → List ℕ
standings_heading round rounds =
    if nat_le round rounds || (rounds == 0) then codes "Standings before round " ++ decimal round
    else codes "Standings after round " ++ decimal rounds

-- the standings of the report as it stood before the first round with a game without a result, or as it is where there is none [own]
unfoldable pub standings_section : Sheet → List Key → Node
standings_section sheet keys =
    section (codes "standings") (standings_heading (standings_round sheet) (rounds_played sheet))
    (standings_table keys (before_round sheet (standings_round sheet)))
