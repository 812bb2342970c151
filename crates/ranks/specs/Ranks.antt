-- The players' places in the standings, and the report that tells them in its rank columns.
use Rattle.std.specs.Prelude.{ℕ, ◌+◌, ◌==◌, if◌then◌else◌, List, [], ◌∷◌, map}
use Rattle.std.specs.Fmt.{decimal}
use Rattle.std.specs.Str.{byte}
use Rattle.tables.specs.Prelude.{RowFacts, rows_of}
use Rattle.tables.specs.declared.key.Key.{Key}
use Rattle.trf16_report.specs.Prelude.{Entry, Sheet, right_in_four}

-- the place of a player among some rows, from 1: where their row stands [with with_ranks]
abbrev pub place_in : List RowFacts → ℕ → ℕ
place_in [] start = 1
place_in (row ∷ rest) start = if row.start == start then 1 else place_in rest start + 1

-- a place in the columns 85 to 89 of a player's line: a blank, and the place right in four columns [TRF16, columns 86 to 89]
abbrev pub rank_text : ℕ → List ℕ
rank_text place = byte " " ∷ right_in_four (decimal place)

-- a player who has their place among some rows in these columns
abbrev pub entry_ranked : List RowFacts → Entry → Entry
entry_ranked rows entry = record entry { right = rank_text (place_in rows entry.start) }

-- the report that has the place of each player among some rows in these columns [with with_ranks]
abbrev pub with_places : List RowFacts → Sheet → Sheet
with_places rows sheet = record sheet { players = map (entry_ranked rows) sheet.players }

-- the report that has the place of each player in its standings by some keys in their columns 85 to 89 [own]
abbrev pub with_ranks : List Key → Sheet → Sheet
with_ranks keys sheet = with_places (rows_of sheet keys) sheet
