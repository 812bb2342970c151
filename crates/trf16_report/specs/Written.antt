-- The canonical text of a report: the columns of TRF16, each line ended by LF, and no byte order mark.
use Rattle.std.specs.Prelude.{ℕ, ◌-◌, ◌/◌, ◌%◌, Bool, true, false, ◌==◌, if◌then◌else◌, List, [], ◌∷◌, ◌++◌, length, replicate, codes, Option, Some, None}
use Rattle.std.specs.List.{flat_map}
use Rattle.std.specs.Fmt.{decimal}
use Rattle.std.specs.Str.{byte}
use Rattle.trf16_report.specs.Lines.{columns}
use Rattle.trf16_report.specs.Sheet.{Entry, Sheet}
use Rattle.trf16_report.specs.declared.cell.Colour.{Colour}
use Rattle.trf16_report.specs.declared.cell.Colour.TheVariants.{White, Black}
use Rattle.trf16_report.specs.declared.cell.Bye.{Bye as ByeKind}
use Rattle.trf16_report.specs.declared.cell.Bye.TheVariants.{Half, Full, Allocated, Zero}
use Rattle.trf16_report.specs.declared.cell.GameOutcome.{GameOutcome}
use Rattle.trf16_report.specs.declared.cell.GameOutcome.TheVariants.{Win, Draw, Loss}
use Rattle.trf16_report.specs.declared.cell.Cell.{Cell}
use Rattle.trf16_report.specs.declared.cell.Cell.TheVariants.{Blank, Bye, Game, Forfeit, Unfinished}

-- some blanks
abbrev pub blanks : ℕ → List ℕ
blanks n = replicate n (byte " ")

-- a text at the right of four columns [with written]
abbrev pub right_in_four : List ℕ → List ℕ
right_in_four text = blanks (4 - length text) ++ text

-- a text at the left of so many columns
abbrev pub left_in : Bool → ℕ → List ℕ → List ℕ
left_in utf8 width text = text ++ blanks (width - length (columns utf8 text))

-- half points as points with one decimal [with written]
abbrev pub points_text : ℕ → List ℕ
points_text points = decimal (points / 2) ++ (byte "." ∷ (if points % 2 == 0 then byte "0" else byte "5") ∷ [])

-- the points field: blank, or the points
abbrev pub points_field : Option ℕ → List ℕ
points_field None = blanks 4
points_field (Some points) = right_in_four (points_text points)

-- H, F, U and Z
abbrev pub bye_letter : ByeKind → ℕ
bye_letter Half = byte "H"
bye_letter Full = byte "F"
bye_letter Allocated = byte "U"
bye_letter Zero = byte "Z"

-- w, b, or a dash where there is none
abbrev pub colour_letter : Option Colour → ℕ
colour_letter None = byte "-"
colour_letter (Some White) = byte "w"
colour_letter (Some Black) = byte "b"

-- 1, = and 0 of a rated game, W, D and L of one that is not
abbrev pub outcome_letter : Bool → GameOutcome → ℕ
outcome_letter true Win = byte "1"
outcome_letter true Draw = byte "="
outcome_letter true Loss = byte "0"
outcome_letter false Win = byte "W"
outcome_letter false Draw = byte "D"
outcome_letter false Loss = byte "L"

-- opponent, colour and result in eight columns
abbrev pub meeting_text : ℕ → Option Colour → ℕ → List ℕ
meeting_text opponent colour result = right_in_four (decimal opponent) ++ (byte " " ∷ colour_letter colour ∷ byte " " ∷ result ∷ [])

-- the eight columns of a cell [with written]
abbrev pub cell_text : Cell → List ℕ
cell_text Blank = blanks 8
cell_text (Bye bye) = codes "0000 - " ++ (bye_letter bye ∷ [])
cell_text (Game opponent colour rated got) = meeting_text opponent (Some colour) (outcome_letter rated got)
cell_text (Forfeit opponent colour won) = meeting_text opponent colour (if won then byte "+" else byte "-")
cell_text (Unfinished opponent colour) = meeting_text opponent (Some colour) (byte " ")

-- a round: two blanks and the cell
abbrev pub round_text : Cell → List ℕ
round_text cell = codes "  " ++ cell_text cell

-- the line of a player in TRF16's columns, with numbers and points at the right of their fields [with written]
abbrev pub player_text : Bool → Entry → List ℕ
player_text utf8 entry =
    codes "001 " ++ (right_in_four (decimal entry.start) ++ (left_in utf8 72 entry.left ++ (points_field entry.points
    ++ (left_in utf8 5 entry.right ++ flat_map round_text entry.cells))))

-- the lines: those that are carried as they stand, and those of the players in their places
abbrev pub lines_text : Bool → List (Option (List ℕ)) → List Entry → List ℕ
lines_text utf8 [] players = []
lines_text utf8 (Some line ∷ rest) players = line ++ (byte "\n" ∷ lines_text utf8 rest players)
lines_text utf8 (None ∷ rest) [] = lines_text utf8 rest []
lines_text utf8 (None ∷ rest) (entry ∷ players) = player_text utf8 entry ++ (byte "\n" ∷ lines_text utf8 rest players)

-- the canonical text of a report: carried lines as they stand and the players' lines, each ended by LF, and no byte order mark [TRF16; own]
abbrev pub written : Sheet → List ℕ
written sheet = lines_text sheet.utf8 sheet.carried sheet.players
