-- What a player's cell of a round says, as text.
use Rattle.std.specs.Prelude.{ℕ, true, if◌then◌else◌, List, [], ◌∷◌, ◌++◌, Some, codes}
use Rattle.std.specs.Fmt.{decimal}
use Rattle.trf16_report.specs.declared.cell.Cell.{Cell}
use Rattle.trf16_report.specs.declared.cell.Cell.TheVariants.{Blank, Bye, Game, Forfeit, Unfinished}
use Rattle.trf16_report.specs.Prelude.{bye_letter, colour_letter, outcome_letter}

-- a cell, with the letters that it has in the report: opponent, colour and result, the letter of a bye, or a dash where it is blank [own]
abbrev pub game_text : Cell → List ℕ
game_text Blank = codes "-"
game_text (Bye bye) = bye_letter bye ∷ []
game_text (Game opponent colour rated got) = decimal opponent ++ (colour_letter (Some colour) ∷ outcome_letter rated got ∷ [])
game_text (Forfeit opponent colour won) = decimal opponent ++ (colour_letter colour ∷ (if won then codes "+" else codes "-"))
game_text (Unfinished opponent colour) = decimal opponent ++ (colour_letter (Some colour) ∷ [])

-- what a cell says of the result: 1, = or 0 of a game, rated or not, + or - of a forfeit, and nothing where there is no result [TRF16,
-- columns 92 to 99 and every ten further]
abbrev pub result_mark : Cell → List ℕ
result_mark (Game opponent colour rated got) = outcome_letter true got ∷ []
result_mark (Forfeit opponent colour won) = if won then codes "+" else codes "-"
result_mark other = []
