-- Texts that several answers have: points, names, and that the steps did not suffice.
use Rattle.std.specs.Prelude.{ℕ, ◌/◌, ◌%◌, ◌==◌, if◌then◌else◌, List, [], ◌∷◌, ◌++◌, codes}
use Rattle.std.specs.Fmt.{decimal}
use Rattle.common_texts.specs.Controls.{without_controls}

-- half points as points with one decimal
unfoldable pub halves_text : ℕ → List ℕ
halves_text halves = decimal (halves / 2) ++ (if halves % 2 == 0 then codes ".0" else codes ".5")

-- a name as it is shown: a question mark in place of each control character, and a dash where it is blank [with without_controls]
abbrev pub name_or_dash : List ℕ → List ℕ
name_or_dash [] = codes "-"
name_or_dash (first ∷ rest) = without_controls (first ∷ rest)

-- the steps of a bracket reached the limit before it was decided [own]
abbrev pub undecided_text : ℕ → ℕ → List ℕ
undecided_text number used = codes "undecided bracket " ++ (decimal number ++ (codes " steps " ++ (decimal used ++ codes "\n")))

-- the same in a sentence [with undecided_text]
abbrev pub undecided_words : ℕ → ℕ → List ℕ
undecided_words number used = codes "Undecided: bracket " ++ (decimal number ++ (codes " needs more than " ++ (decimal used ++ codes " steps.\n")))
