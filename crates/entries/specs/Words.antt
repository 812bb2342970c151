-- Which words are entries.
use Rattle.std.specs.Prelude.{ℕ, true, false, ◌==◌, if◌then◌else◌, List, [], ◌∷◌, codes, Option, Some, None, option_and_then, option_map}
use Rattle.std.specs.Char.{is_ascii_digit, to_ascii_uppercase}
use Rattle.std.specs.Option.{option_map_or}
use Rattle.std.specs.Str.{byte, bytes_eq}
use Rattle.trf16_report.specs.Prelude.{number_of, positive}
use Rattle.trf16_report.specs.declared.cell.Bye.{Bye}
use Rattle.trf16_report.specs.declared.cell.Bye.TheVariants.{Half, Full, Zero}
use Rattle.trf16_report.specs.declared.cell.GameOutcome.TheVariants.{Win, Draw, Loss}
use Rattle.entries.specs.declared.entry.GameResult.{GameResult}
use Rattle.entries.specs.declared.entry.GameResult.TheVariants.{Played, Forfeited}
use Rattle.entries.specs.declared.entry.Event.{Event}
use Rattle.entries.specs.declared.entry.Event.TheVariants.{Scores, NoResult, Asked, Meets, Allocated}
use Rattle.entries.specs.declared.entry.HandEntry.{HandEntry}

-- the digits at the front of a word
abbrev pub digits_of : List ℕ → List ℕ
digits_of [] = []
digits_of (b ∷ rest) = if is_ascii_digit b then b ∷ digits_of rest else []

-- what stands behind them
abbrev pub behind_digits : List ℕ → List ℕ
behind_digits [] = []
behind_digits (b ∷ rest) = if is_ascii_digit b then behind_digits rest else b ∷ rest

-- the start rank that some digits spell: one to four of them, and not 0
abbrev pub start_in : List ℕ → Option ℕ
start_in digits = option_and_then positive (number_of digits)

-- the result that a letter in upper case is: 1, = and 0 of a rated game, W, D and L of one that is not, + and - of one that was not
-- played [TRF16, columns 92 to 99]
abbrev pub result_of : ℕ → Option GameResult
result_of letter =
    if letter == byte "1" then Some (Played true Win)
    else (if letter == byte "=" then Some (Played true Draw)
    else (if letter == byte "0" then Some (Played true Loss)
    else (if letter == byte "W" then Some (Played false Win)
    else (if letter == byte "D" then Some (Played false Draw)
    else (if letter == byte "L" then Some (Played false Loss)
    else (if letter == byte "+" then Some (Forfeited true)
    else (if letter == byte "-" then Some (Forfeited false) else None)))))))

-- the bye that a player may ask for: H, F, or Z where they are absent [TRF16, columns 92 to 99]
abbrev pub asked_of : ℕ → Option Bye
asked_of letter =
    if letter == byte "H" then Some Half
    else (if letter == byte "F" then Some Full
    else (if letter == byte "Z" then Some Zero else None))

-- what a letter says of a player: a bye or a result
abbrev pub event_of : ℕ → Option Event
event_of letter = option_map_or (λ bye. Some (Asked bye)) (asked_of letter) (option_map Scores (result_of letter))

-- what stands behind the colon: nothing, or one letter in either case
abbrev pub marked_in : List ℕ → Option Event
marked_in [] = Some NoResult
marked_in (letter ∷ []) = event_of (to_ascii_uppercase letter)
marked_in _ = None

-- the result behind the two players: none, or a colon and one letter in either case
abbrev pub score_in : List ℕ → Option (Option GameResult)
score_in [] = Some None
score_in (colon ∷ letter ∷ []) = if colon == byte ":" then option_map (λ score. Some score) (result_of (to_ascii_uppercase letter)) else None
score_in _ = None

-- what stands behind the dash: 0, or the player with Black and perhaps a result
abbrev pub meeting_in : List ℕ → Option Event
meeting_in other =
    if bytes_eq other (codes "0") then Some Allocated
    else option_and_then (λ black. option_map (λ score. Meets black score) (score_in (behind_digits other))) (start_in (digits_of other))

-- what stands behind the player
abbrev pub event_in : List ℕ → Option Event
event_in [] = None
event_in (mark ∷ rest) = if mark == byte ":" then marked_in rest else (if mark == byte "-" then meeting_in rest else None)

-- the entry that a word is: P: and perhaps a letter; W-B, perhaps with a colon and the letter of a result; or W-0. A player is one to four
-- digits, and not 0 [own]
abbrev pub entry_in : List ℕ → Option HandEntry
entry_in word =
    option_and_then (λ player. option_map (λ event. record { player = player; event = event }) (event_in (behind_digits word))) (start_in (digits_of word))
