-- Each pass adds one value to each row.
use Rattle.std.proofs.Common.{◌≡◌, ℕ, ◌+◌, List, [], ◌∷◌, ◌++◌, length, map, get_or, Option, refl, ap, ◌∙◌, subst, arith, length-append}
use Rattle.std.specs.Prelude.{All}
use Rattle.std.proofs.lemmas.List.Elements.{All-map}
use Rattle.std.proofs.lemmas.List.Sorted.{All-permutation}
use Rattle.trf16_report.specs.Prelude.{Sheet}
use Rattle.tables.specs.declared.key.Key.{Key}
use Rattle.tables.specs.Prelude.{RowFacts, value_of, row_goes_before, rows_in_order, row_of, with_value, with_key, with_keys, has_standings, standings_of}
use Rattle.report_laws.specs.Standings.{HasEachKey}
use Rattle.trf16_report.proofs.RankLemmas.{ranked_moves}
use Rattle.report_laws.proofs.StandingRows.{rows-given}

-- each row has so many values
abbrev Have : ℕ → List RowFacts → Type 0
Have n rows = All (λ (row : RowFacts). length row.values ≡ n) rows

one-more : (values : List (Option ℕ)) (value : Option ℕ) (n : ℕ) → length values ≡ n → length (values ++ value ∷ []) ≡ n + 1
one-more values value n e = length-append values (value ∷ []) ∙ ap (λ m. m + 1) e

have-key : (sheet : Sheet) (key : Key) (rows : List RowFacts) (n : ℕ) → Have n rows → Have (n + 1) (with_key sheet key rows)
have-key sheet key rows n have =
    All-map (λ (row : RowFacts). length row.values ≡ n + 1) (λ row. with_value row (value_of sheet rows key row)) rows
    (λ k d lt. let row = get_or rows k d in one-more row.values (value_of sheet rows key row) n (have k d lt))

have-keys : (sheet : Sheet) (keys : List Key) (rows : List RowFacts) (n m : ℕ) → n + length keys ≡ m → Have n rows → Have m (with_keys sheet keys rows)
have-keys sheet [] rows n m e have = let same : n ≡ m = omega (arith, e) in subst (λ k. Have k rows) same have
have-keys sheet (key ∷ rest) rows n m e have =
    have-keys sheet rest (with_key sheet key rows) (n + 1) m (omega (arith, e)) (have-key sheet key rows n have)

have-none : (sheet : Sheet) → Have 0 (map (row_of sheet) sheet.players)
have-none sheet = All-map (λ (row : RowFacts). length row.values ≡ 0) (row_of sheet) sheet.players (λ k d lt. refl)

have-all : (sheet : Sheet) (keys : List Key) → Have (length keys) (rows_in_order (with_keys sheet keys (map (row_of sheet) sheet.players)))
have-all sheet keys =
    let rows = with_keys sheet keys (map (row_of sheet) sheet.players) in
    All-permutation (λ (row : RowFacts). length row.values ≡ length keys) rows (rows_in_order rows) (ranked_moves row_goes_before rows)
    (have-keys sheet keys (map (row_of sheet) sheet.players) 0 (length keys) (omega arith) (have-none sheet))

pub has_each_key : (sheet : Sheet) (keys : List Key) → HasEachKey sheet keys
unfolding standings_of
has_each_key sheet keys rows e =
    let all = rows_in_order (with_keys sheet keys (map (row_of sheet) sheet.players)) in
    subst (λ (given : List RowFacts). Have (length keys) given) (rows-given all rows (has_standings sheet) e) (have-all sheet keys)
