-- Rows, one by one.
use Rattle.std.proofs.Common.{◌≡◌, ◌∙◌, ℕ, ◌+◌, List, [], ◌∷◌, ◌++◌, length, refl, ap, suc}
use Rattle.markup.specs.Prelude.{Node}
use Rattle.sheets.specs.Parts.{each_from}
use Rattle.sheets.specs.Rounds.{board_row, board_rows}
use Rattle.sheets.specs.StandingsParts.{standings_row, standings_rows}
use Rattle.tables.specs.declared.key.Key.{Key}
use Rattle.tables.specs.Prelude.{RowFacts}
use Rattle.trf16_report.specs.Prelude.{Sheet}
use Rattle.page_laws.specs.Rows.{numbered, rows_in}

-- where each thing gives one row, the rows are what the things give
rows_of_each : {A : Type 0} (f : ℕ → A → Node) → ((n : ℕ) (x : A) → rows_in (f n x) ≡ f n x ∷ []) → (n : ℕ) (xs : List A)
    → rows_in (each_from f n xs) ≡ numbered f n xs
rows_of_each f one n [] = refl
rows_of_each f one n (x ∷ xs) = ap (λ rows. rows ++ rows_in (each_from f (n + 1) xs)) (one n x) ∙ ap (λ rows. f n x ∷ rows) (rows_of_each f one (n + 1) xs)

pub as_many : {A : Type 0} (f : ℕ → A → Node) (n : ℕ) (xs : List A) → length (numbered f n xs) ≡ length xs
as_many f n [] = refl
as_many f n (x ∷ xs) = ap (λ many. suc many) (as_many f (n + 1) xs)

one_board : (sheet : Sheet) (round n : ℕ) (board : ℕ × ℕ) → rows_in (board_row sheet round n board) ≡ board_row sheet round n board ∷ []
unfolding board_row
one_board sheet round n board = refl

one_place : (sheet : Sheet) (keys : List Key) (n : ℕ) (facts : RowFacts) → rows_in (standings_row sheet keys n facts) ≡ standings_row sheet keys n facts ∷ []
unfolding standings_row
one_place sheet keys n facts = refl

pub rows_of_boards : (sheet : Sheet) (round : ℕ) (boards : List (ℕ × ℕ)) → rows_in (board_rows sheet round boards) ≡ numbered (board_row sheet round) 1 boards
rows_of_boards sheet round boards = rows_of_each (board_row sheet round) (one_board sheet round) 1 boards

pub rows_of_standings : (sheet : Sheet) (keys : List Key) (rows : List RowFacts) → rows_in (standings_rows sheet keys rows) ≡ numbered (standings_row sheet keys) 1 rows
rows_of_standings sheet keys rows = rows_of_each (standings_row sheet keys) (one_place sheet keys) 1 rows

pub as_many_boards : (sheet : Sheet) (round : ℕ) (boards : List (ℕ × ℕ)) → length (rows_in (board_rows sheet round boards)) ≡ length boards
as_many_boards sheet round boards = ap (λ (rows : List Node). length rows) (rows_of_boards sheet round boards) ∙ as_many (board_row sheet round) 1 boards

pub as_many_places : (sheet : Sheet) (keys : List Key) (rows : List RowFacts) → length (rows_in (standings_rows sheet keys rows)) ≡ length rows
as_many_places sheet keys rows = ap (λ (nodes : List Node). length nodes) (rows_of_standings sheet keys rows) ∙ as_many (standings_row sheet keys) 1 rows
