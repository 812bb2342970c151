-- The cells of the crosstable: opponent, colour and result of a round (TRF16, columns 92 to 99 and every ten further).
use Rattle.std.specs.Prelude.{ℕ, Bool, true, false, ◌||◌, ◌==◌, if◌then◌else◌, List, [], ◌∷◌, Option, Some, None, option_and_then}
use Rattle.std.specs.Option.{option_map_or}
use Rattle.std.specs.Char.{to_ascii_uppercase}
use Rattle.trf16_report.specs.Fields.{words, number_of}
use Rattle.trf16_report.specs.declared.cell.Colour.{Colour}
use Rattle.trf16_report.specs.declared.cell.Colour.TheVariants.{White, Black}
use Rattle.trf16_report.specs.declared.cell.Bye.TheVariants.{Half, Full, Allocated, Zero}
use Rattle.trf16_report.specs.declared.cell.GameOutcome.{GameOutcome}
use Rattle.trf16_report.specs.declared.cell.GameOutcome.TheVariants.{Win, Draw, Loss}
use Rattle.trf16_report.specs.declared.cell.Cell.{Cell}
use Rattle.trf16_report.specs.declared.cell.Cell.TheVariants.{Blank, Bye, Game, Forfeit, Unfinished}
use Rattle.std.specs.Str.{byte}

-- what stands in one column, letters in upper case: a missing column is blank, and a character of several bytes is no mark
abbrev pub mark_in : List ℕ → Option ℕ
mark_in [] = Some (byte " ")
mark_in (b ∷ []) = Some (to_ascii_uppercase b)
mark_in (b ∷ c ∷ rest) = None

-- w or b
abbrev pub colour_of : ℕ → Option Colour
colour_of c = if c == byte "W" then Some White else (if c == byte "B" then Some Black else None)

-- a dash or a blank
abbrev pub is_no_colour : ℕ → Bool
is_no_colour c = (c == byte "-") || (c == byte " ")

-- without an opponent and a colour: a blank says nothing of the round, and H, F, U and Z are byes [TRF16, columns 92 to 99]
abbrev pub bye_cell : ℕ → Option Cell
bye_cell result =
    if result == byte " " then Some Blank
    else (if result == byte "H" then Some (Bye Half)
    else (if result == byte "F" then Some (Bye Full)
    else (if result == byte "U" then Some (Bye Allocated)
    else (if result == byte "Z" then Some (Bye Zero) else None))))

-- with an opponent, and with a colour or none: + is a forfeit that was won, and - one that was not [TRF16, columns 92 to 99]
abbrev pub forfeit_cell : ℕ → Option Colour → ℕ → Option Cell
forfeit_cell opponent colour result =
    if result == byte "+" then Some (Forfeit opponent colour true)
    else (if result == byte "-" then Some (Forfeit opponent colour false) else None)

-- whether a game is rated, and how it ended: 1, = or 0 where it is rated, W, D or L where it is not [with game_cell]
abbrev pub outcome_of : ℕ → Option (Bool × GameOutcome)
outcome_of result =
    if result == byte "1" then Some (true, Win)
    else (if result == byte "=" then Some (true, Draw)
    else (if result == byte "0" then Some (true, Loss)
    else (if result == byte "W" then Some (false, Win)
    else (if result == byte "D" then Some (false, Draw)
    else (if result == byte "L" then Some (false, Loss) else None)))))

-- with an opponent and a colour: a game with its result, a game without a result yet where that is blank, or a forfeit [TRF16, columns 92
-- to 99]
abbrev pub game_cell : ℕ → Colour → ℕ → Option Cell
game_cell opponent colour result =
    if result == byte " " then Some (Unfinished opponent colour)
    else option_map_or (λ played. Some (Game opponent colour played.0 played.1)) (outcome_of result) (forfeit_cell opponent (Some colour) result)

-- the cell of an opponent or none, a colour and a result, where the three have one
abbrev pub cell_of : Option ℕ → ℕ → ℕ → Option Cell
cell_of None colour result = if is_no_colour colour then bye_cell result else None
cell_of (Some opponent) colour result =
    if is_no_colour colour then forfeit_cell opponent None result
    else option_and_then (λ c. game_cell opponent c result) (colour_of colour)

-- 0 is no opponent
abbrev pub opponent_of : ℕ → Option ℕ
opponent_of n = if n == 0 then None else Some n

-- the opponent that the words of a field name, or none; no answer where they are no number
abbrev pub opponent_in : List (List ℕ) → Option (Option ℕ)
opponent_in [] = Some None
opponent_in (word ∷ []) = option_and_then (λ n. Some (opponent_of n)) (number_of word)
opponent_in _ = None

-- the cell that three fields spell, with letters in either case: an opponent, a colour and a result [TRF16, columns 92 to 99 and every ten
-- further]
abbrev pub cell_from : List ℕ → List ℕ → List ℕ → Option Cell
cell_from opponent colour result =
    option_and_then (λ o. option_and_then (λ c. option_and_then (λ r. cell_of o c r) (mark_in result)) (mark_in colour)) (opponent_in (words opponent))
