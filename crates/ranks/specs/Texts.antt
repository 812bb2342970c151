-- What the inner functions of ranks put into the rank columns: a text for each player.
use Rattle.std.specs.Prelude.{ℕ, List, [], ◌∷◌}
use Rattle.trf16_report.specs.Prelude.{Entry, Sheet}

-- players with other texts in their columns 85 to 89, one for each
abbrev pub entries_with : List Entry → List (List ℕ) → List Entry
entries_with [] texts = []
entries_with (entry ∷ entries) [] = []
entries_with (entry ∷ entries) (text ∷ texts) = record entry { right = text } ∷ entries_with entries texts

-- a report with such players
abbrev pub with_texts : Sheet → List (List ℕ) → Sheet
with_texts sheet texts = record sheet { players = entries_with sheet.players texts }
