-- The standings: the players by score, then by each key in its order, then by start rank.
use Rattle.std.specs.Prelude.{ℕ, Bool, List, [], ◌∷◌, ◌++◌, map, Option, Some, None, option_map, Result, Ok, Err, slice_index_or}
use Rattle.std.specs.Option.{option_cmp}
use Rattle.std.specs.Cmp.Lexicographic.{slice_cmp}
use Rattle.std.specs.declared.cmp.Ordering.{Ordering}
use Rattle.std.specs.Ordering.{nat_cmp, ordering_then, is_lt}
use Rattle.trf16_report.specs.declared.kind.LineKind.TheVariants.{Xxs}
use Rattle.trf16_report.specs.Prelude.{Entry, Sheet, unfinished, first_of, ranked_by, IsRankedBy}
use Rattle.trf16_report.specs.Outcomes.{◌>>=◌}
use Rattle.tables.specs.declared.key.Key.{Key}
use Rattle.tables.specs.declared.fault.TieFault.{TieFault}
use Rattle.tables.specs.declared.fault.TieFault.TheVariants.{Unfinished, Unsupported}
use Rattle.tables.specs.Games.{score}
use Rattle.tables.specs.Keys.{RowFacts, value_of}

-- a player's row before any key
abbrev pub row_of : Sheet → Entry → RowFacts
row_of sheet entry = record { start = entry.start; score = score sheet entry.start; values = [] }

-- a row with the value of one more key
abbrev pub with_value : RowFacts → Option ℕ → RowFacts
with_value row value = record row { values = row.values ++ value ∷ [] }

-- rows with the values of one more key
abbrev pub with_key : Sheet → Key → List RowFacts → List RowFacts
with_key sheet key rows = map (λ row. with_value row (value_of sheet rows key row)) rows

-- rows with the values of some more keys, one key after the other
abbrev pub with_keys : Sheet → List Key → List RowFacts → List RowFacts
with_keys sheet [] rows = rows
with_keys sheet (key ∷ rest) rows = with_keys sheet rest (with_key sheet key rows)

-- the order of two rows: the higher score, then the higher value in the first key in which they differ (none is below any), then the
-- smaller start rank [own]
abbrev pub row_cmp : RowFacts → RowFacts → Ordering
row_cmp a b = ordering_then (nat_cmp b.score a.score) (ordering_then (slice_cmp (option_cmp nat_cmp) b.values a.values) (nat_cmp a.start b.start))

-- who stands in front of another [with row_cmp]
abbrev pub row_goes_before : RowFacts → RowFacts → Bool
row_goes_before a b = is_lt (row_cmp a b)

-- rows in order
abbrev pub rows_in_order : List RowFacts → List RowFacts
rows_in_order = ranked_by row_goes_before

-- no row goes before one that stands in front of it [with row_cmp]
abbrev pub IsRanked : List RowFacts → Type 0
IsRanked = IsRankedBy row_goes_before

-- what stands behind the last row
abbrev pub no_row : RowFacts
no_row = record { start = 0; score = 0; values = [] }

-- the row at a place, from 0 [with standings_of]
abbrev pub row_at : List RowFacts → ℕ → RowFacts
row_at rows place = slice_index_or rows place no_row

-- a fault, if its cause is there
abbrev pub fault_if : Option TieFault → Result (Unit {0}) TieFault
fault_if None = Ok tt
fault_if (Some fault) = Err fault

-- why there are no standings: a game without a result, or a line XXS, which gives games other points; the first of these [with
-- standings_of]
unfoldable pub has_standings : Sheet → Result (Unit {0}) TieFault
has_standings sheet = do
  _ ← fault_if (option_map (λ at'. Unfinished at'.0 at'.1) (unfinished sheet))
  fault_if (option_map (λ line. Unsupported line) (first_of (Xxs ∷ []) sheet))

-- the rows of all players in order, with the values of the keys [with standings_of]
abbrev pub rows_of : Sheet → List Key → List RowFacts
rows_of sheet keys = rows_in_order (with_keys sheet keys (map (row_of sheet) sheet.players))

-- the rows of all players in order, with the values of the keys, or why there are none [own]
unfoldable pub standings_of : Sheet → List Key → Result (List RowFacts) TieFault
standings_of sheet keys = do
  _ ← has_standings sheet
  Ok (rows_of sheet keys)
