-- The lines of the standings.
use Rattle.std.specs.Prelude.{ℕ, ◌+◌, List, [], ◌∷◌, ◌++◌, Option, codes}
use Rattle.std.specs.Fmt.{decimal}
use Rattle.tables.specs.Prelude.{RowFacts}
use Rattle.tables.specs.declared.key.Key.{Key}
use Rattle.trf16_report.specs.Prelude.{Sheet}
use Rattle.replies.specs.GameTexts.{games_text}
use Rattle.common_texts.specs.KeyTexts.{value_text}
use Rattle.common_texts.specs.Texts.{halves_text}

-- the values of some keys, in their order
abbrev pub values_text : List Key → List (Option ℕ) → List ℕ
values_text [] values = []
values_text (key ∷ keys) [] = []
values_text (key ∷ keys) (value ∷ values) = codes " " ++ (value_text key value ++ values_text keys values)

-- a player: place, start rank, score, and the values of the keys
unfoldable pub row_text : List Key → ℕ → RowFacts → List ℕ
row_text keys place row = decimal place ++ (codes " " ++ (decimal row.start ++ (codes " " ++ (halves_text row.score ++ values_text keys row.values))))

-- the lines of players from a place on, each with the player's games of so many rounds
abbrev pub rows_text : Sheet → List Key → ℕ → ℕ → List RowFacts → List ℕ
rows_text sheet keys rounds place [] = []
rows_text sheet keys rounds place (row ∷ rows) =
    row_text keys place row ++ (games_text sheet row.start rounds ++ (codes "\n" ++ rows_text sheet keys rounds (place + 1) rows))
