-- The games of a player in the standings, round by round.
use Rattle.std.specs.Prelude.{ℕ, zero, suc, ◌+◌, List, [], ◌∷◌, ◌++◌, codes}
use Rattle.trf16_report.specs.Prelude.{Sheet, cell_in}
use Rattle.common_texts.specs.CellTexts.{game_text}
use Rattle.replies.specs.Tables.{LabelFacts, right}

-- the cells of a player in the first rounds, so many of them, each behind a blank
abbrev pub games_text : Sheet → ℕ → ℕ → List ℕ
games_text sheet start zero = []
games_text sheet start (suc rounds) = games_text sheet start rounds ++ (codes " " ++ game_text (cell_in sheet start (rounds + 1)))

-- the same, each in a column of its own
abbrev pub games_labels : Sheet → ℕ → ℕ → List LabelFacts
games_labels sheet start zero = []
games_labels sheet start (suc rounds) = games_labels sheet start rounds ++ right (game_text (cell_in sheet start (rounds + 1))) ∷ []
