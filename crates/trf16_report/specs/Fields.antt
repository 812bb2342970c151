-- The fields of a line: words, numbers and points.
use Rattle.std.specs.Prelude.{ℕ, ◌+◌, ◌-◌, ◌*◌, Bool, ◌&&◌, ◌||◌, ◌==◌, nat_le, if◌then◌else◌, List, [], ◌∷◌, length, Option, Some, None, option_and_then}
use Rattle.std.specs.List.{list_all}
use Rattle.std.specs.Char.{is_ascii_digit}
use Rattle.std.specs.Str.{byte}
use Rattle.trf16_report.specs.Lines.{onto_first}

-- the words of a field, which blanks set apart [TRF16]
abbrev pub words : List ℕ → List (List ℕ)
words [] = []
words (b ∷ []) = if b == byte " " then [] else (b ∷ []) ∷ []
words (b ∷ c ∷ rest) =
    if b == byte " " then words (c ∷ rest)
    else (if c == byte " " then (b ∷ []) ∷ words rest else onto_first b (words (c ∷ rest)))

-- the number that digits spell behind the digits of another
abbrev pub number_after : ℕ → List ℕ → ℕ
number_after front [] = front
number_after front (digit ∷ rest) = number_after (10 * front + (digit - byte "0")) rest

-- one to four digits
abbrev pub is_number : List ℕ → Bool
is_number word = nat_le 1 (length word) && nat_le (length word) 4 && list_all is_ascii_digit word

-- the number that a word of one to four digits spells, of which the first may be 0 [TRF16; own]
abbrev pub number_of : List ℕ → Option ℕ
number_of word = if is_number word then Some (number_after 0 word) else None

-- a number field: blanks, digits, blanks [with number_of]
abbrev pub number_in : List (List ℕ) → Option ℕ
number_in (word ∷ []) = number_of word
number_in _ = None

-- the half points behind a decimal point: one digit, 0 or 5
abbrev pub half_after : ℕ → List ℕ → Option ℕ
half_after whole (digit ∷ []) = if digit == byte "0" then Some (2 * whole) else (if digit == byte "5" then Some (2 * whole + 1) else None)
half_after whole _ = None

-- the half points that a text spells, of which the whole points so far are read
abbrev pub points_after : ℕ → List ℕ → Option ℕ
points_after whole [] = Some (2 * whole)
points_after whole (b ∷ rest) =
    if is_ascii_digit b then points_after (10 * whole + (b - byte "0")) rest
    else (if (b == byte ".") || (b == byte ",") then half_after whole rest else None)

-- the half points that a word of one to four bytes spells: digits; a decimal point or comma and one digit 0 or 5; or the first and then the
-- second [TRF16; own]
abbrev pub points_of : List ℕ → Option ℕ
points_of word = if nat_le 1 (length word) && nat_le (length word) 4 then points_after 0 word else None

-- a list without the items at its end that pass a test [with without_blanks]
abbrev pub without_last : {X : Type 0} → (X → Bool) → List X → List X
without_last test [] = []
without_last test (x ∷ rest) = if list_all test (x ∷ rest) then [] else x ∷ without_last test rest

-- a text without the blanks at its end [own]
abbrev pub trimmed : List ℕ → List ℕ
trimmed bytes = without_last (λ b. b == byte " ") bytes

-- a list without the items at its front that pass a test
abbrev pub without_first : {X : Type 0} → (X → Bool) → List X → List X
without_first test [] = []
without_first test (x ∷ rest) = if test x then without_first test rest else x ∷ rest

-- a text without the blanks at its ends [own]
abbrev pub without_blanks : List ℕ → List ℕ
without_blanks bytes = trimmed (without_first (λ b. b == byte " ") bytes)

-- the points that the words of a field name, in half points: none where there is no word; no answer where they are no points [with
-- points_of]
abbrev pub points_in : List (List ℕ) → Option (Option ℕ)
points_in [] = Some None
points_in (word ∷ []) = option_and_then (λ points. Some (Some points)) (points_of word)
points_in _ = None
