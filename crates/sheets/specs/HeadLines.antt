-- The lines of a report that say of the whole event what it is.
use Rattle.std.specs.Prelude.{ℕ, ◌+◌, ◌*◌, Bool, if◌then◌else◌, List, [], ◌∷◌, Option, Some, None, drop}
use Rattle.trf16_report.specs.Prelude.{Sheet, columns, is_kind, joined, text, without_blanks}
use Rattle.sheets.specs.Texts.{plain}

-- the first of some lines that is carried and of a kind; empty where there is none
abbrev pub first_of_kind : Bool → List ℕ → List (Option (List ℕ)) → List ℕ
first_of_kind utf8 kind [] = []
first_of_kind utf8 kind (None ∷ rest) = first_of_kind utf8 kind rest
first_of_kind utf8 kind (Some line ∷ rest) = if is_kind kind (columns utf8 line) then line else first_of_kind utf8 kind rest

-- the first line of a kind; empty where there is none [TRF16, columns 1 to 3]
abbrev pub first_line : Sheet → List ℕ → List ℕ
first_line sheet kind = first_of_kind sheet.utf8 kind sheet.carried

-- what a line says: its columns from 5 on, without the blanks at their ends, as they are shown [TRF16]
abbrev pub said_in : Bool → List ℕ → List ℕ
said_in utf8 line = plain utf8 (without_blanks (joined (drop 4 (columns utf8 line))))

-- what the first line of a kind says [with said_in]
abbrev pub head_text : Sheet → List ℕ → List ℕ
head_text sheet kind = said_in sheet.utf8 (first_line sheet kind)

-- the date of a round in a line 132: columns 92 to 99 for round 1, and ten columns a round [TRF16, line 132]
abbrev pub date_in : Bool → List ℕ → ℕ → List ℕ
date_in utf8 dates round = plain utf8 (without_blanks (text (columns utf8 dates) (82 + 10 * round) (89 + 10 * round)))
