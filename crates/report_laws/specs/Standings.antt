-- What holds of all standings.
use Rattle.std.specs.Prelude.{◌≡◌, List, length, map, Ok, All, IsPermutation}
use Rattle.trf16_report.specs.Prelude.{Sheet}
use Rattle.tables.specs.declared.key.Key.{Key}
use Rattle.tables.specs.Keys.{RowFacts}
use Rattle.tables.specs.Standings.{standings_of}

-- each player of the report has a row, and one alone [own]
abbrev pub HasEachOnce : Sheet → List Key → Type 0
HasEachOnce sheet keys = (rows : List RowFacts) → standings_of sheet keys ≡ Ok rows
    → IsPermutation (map (λ entry. entry.start) sheet.players) (map (λ row. row.start) rows)

-- each row has a value, or none, for each key [with HasEachOnce]
abbrev pub HasEachKey : Sheet → List Key → Type 0
HasEachKey sheet keys = (rows : List RowFacts) → standings_of sheet keys ≡ Ok rows → All (λ row. length row.values ≡ length keys) rows
