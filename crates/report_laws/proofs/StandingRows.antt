-- No pass loses or doubles a row: keys leave the start ranks, and the order only moves rows.
use Rattle.std.proofs.Common.{◌≡◌, ℕ, List, [], ◌∷◌, map, Option, Result, Ok, Err, refl, ap, ◌∙◌, subst}
use Rattle.std.specs.Prelude.{IsPermutation}
use Rattle.std.proofs.lemmas.List.Sorted.{IsPermutation-map}
use Rattle.trf16_report.specs.Prelude.{Entry, Sheet}
use Rattle.tables.specs.declared.key.Key.{Key}
use Rattle.tables.specs.declared.fault.TieFault.{TieFault}
use Rattle.tables.specs.Prelude.{RowFacts, value_of, row_goes_before, rows_in_order, row_of, with_value, with_key, with_keys, has_standings, standings_of}
use Rattle.report_laws.specs.Standings.{HasEachOnce}
use Rattle.trf16_report.proofs.RankLemmas.{ranked_moves}
use Rattle.trf16_report.specs.Outcomes.{◌>>=◌}

abbrev starts : List RowFacts → List ℕ
starts rows = map (λ row. row.start) rows

starts-with_value : (f : RowFacts → Option ℕ) (rows : List RowFacts) → starts (map (λ row. with_value row (f row)) rows) ≡ starts rows
starts-with_value f [] = refl
starts-with_value f (row ∷ rest) = ap (λ others. row.start ∷ others) (starts-with_value f rest)

starts-with_keys : (sheet : Sheet) (keys : List Key) (rows : List RowFacts) → starts (with_keys sheet keys rows) ≡ starts rows
starts-with_keys sheet [] rows = refl
starts-with_keys sheet (key ∷ rest) rows = starts-with_keys sheet rest (with_key sheet key rows) ∙ starts-with_value (value_of sheet rows key) rows

starts-row_of : (sheet : Sheet) (players : List Entry) → starts (map (row_of sheet) players) ≡ map (λ entry. entry.start) players
starts-row_of sheet [] = refl
starts-row_of sheet (entry ∷ rest) = ap (λ others. entry.start ∷ others) (starts-row_of sheet rest)

starts-ranked : (all : List RowFacts) → IsPermutation (starts all) (starts (rows_in_order all))
starts-ranked all = IsPermutation-map (λ row. row.start) all (rows_in_order all) (ranked_moves row_goes_before all)

starts-all : (sheet : Sheet) (keys : List Key) → IsPermutation (map (λ entry. entry.start) sheet.players) (starts (rows_in_order (with_keys sheet keys (map (row_of sheet) sheet.players))))
starts-all sheet keys =
    let rows = with_keys sheet keys (map (row_of sheet) sheet.players) in
    let same : starts rows ≡ map (λ entry. entry.start) sheet.players = starts-with_keys sheet keys (map (row_of sheet) sheet.players) ∙ starts-row_of sheet sheet.players in
    subst (λ (before : List ℕ). IsPermutation before (starts (rows_in_order rows))) same (starts-ranked rows)

-- if a call gives rows, they are those of the definition
pub rows-given : (all rows : List RowFacts) (first : Result (Unit {0}) TieFault) → (first >>= (λ _. Ok all)) ≡ Ok rows → all ≡ rows
rows-given all rows (Ok x) e = cc
rows-given all rows (Err fault) e = cc

pub has_each_once : (sheet : Sheet) (keys : List Key) → HasEachOnce sheet keys
unfolding standings_of
has_each_once sheet keys rows e =
    let all = rows_in_order (with_keys sheet keys (map (row_of sheet) sheet.players)) in
    subst (λ (given : List RowFacts). IsPermutation (map (λ entry. entry.start) sheet.players) (starts given)) (rows-given all rows (has_standings sheet) e) (starts-all sheet keys)
