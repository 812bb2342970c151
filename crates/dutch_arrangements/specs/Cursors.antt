-- Cursors: an arrangement of a bracket as a text, and which texts are one.
use Rattle.std.specs.Prelude.{ℕ, ◌+◌, ◌-◌, ◌*◌, Bool, true, false, not, ◌&&◌, ◌==◌, nat_le, ltb, if◌then◌else◌, List, [], ◌∷◌, ◌++◌, length, codes, Option, Some, None, is_some, Result, Ok, Err}
use Rattle.std.specs.List.{list_all, flat_map}
use Rattle.std.specs.Char.{is_ascii_digit}
use Rattle.std.specs.Str.{byte, bytes_eq}
use Rattle.std.specs.Fmt.{decimal}
use Rattle.dutch_sequence.specs.Choices.{is_member, numbers_from, left_of}
use Rattle.dutch_arrangements.specs.Arrangements.{Frame, Arrangement, residents_of, remainder_pairs}
use Rattle.dutch_arrangements.specs.declared.bracket.Shape.{Shape}
use Rattle.dutch_arrangements.specs.declared.cursor.CursorFault.{CursorFault}
use Rattle.dutch_arrangements.specs.declared.cursor.CursorFault.TheVariants.{Syntax, NotOfBracket}
use Rattle.dutch_sequence.specs.declared.numbers.TheConstants.{LIMIT}

-- a list: its numbers with commas between them, or 0 alone if it has none [with cursor_text]
abbrev pub list_text : List ℕ → List ℕ
list_text [] = codes "0"
list_text (x ∷ xs) = decimal x ++ flat_map (λ y. codes "," ++ decimal y) xs

-- an arrangement as a text: its four lists with slashes between them [own]
abbrev pub cursor_text : Arrangement → List ℕ
cursor_text a = list_text a.s1 ++ (codes "/" ++ (list_text a.s2 ++ (codes "/" ++ (list_text a.s1r ++ (codes "/" ++ list_text a.s2r)))))

-- a byte put in front of the first of some texts
abbrev pub onto_first : ℕ → List (List ℕ) → List (List ℕ)
onto_first b [] = (b ∷ []) ∷ []
onto_first b (first ∷ others) = (b ∷ first) ∷ others

-- the parts of a text, which a separator sets apart: always one more than it has separators
abbrev pub parts : ℕ → List ℕ → List (List ℕ)
parts separator [] = [] ∷ []
parts separator (b ∷ rest) = if b == separator then [] ∷ parts separator rest else onto_first b (parts separator rest)

-- the number that digits spell behind the digits of another
abbrev pub number_after : ℕ → List ℕ → ℕ
number_after front [] = front
number_after front (digit ∷ rest) = number_after (10 * front + (digit - byte "0")) rest

-- one to four digits, of which the first is not 0
abbrev pub is_numeral : List ℕ → Bool
is_numeral [] = false
is_numeral (first ∷ rest) = not (first == byte "0") && (nat_le (length rest) 3 && list_all is_ascii_digit (first ∷ rest))

-- the number that a part of a list spells: 1 to LIMIT, without leading zeros
abbrev pub number_of : List ℕ → Option ℕ
number_of word = if is_numeral word && nat_le (number_after 0 word) LIMIT then Some (number_after 0 word) else None

-- what comes of a value, if there is one
infixl 10 ◌>>=◌
abbrev pub ◌>>=◌ : {X Y : Type 0} → Option X → (X → Option Y) → Option Y
None >>= next = None
(Some x) >>= next = next x

-- the numbers that some parts spell, if each spells one
abbrev pub numbers_of : List (List ℕ) → Option (List ℕ)
numbers_of [] = Some []
numbers_of (word ∷ others) = do
  number ← number_of word
  numbers ← numbers_of others
  Some (number ∷ numbers)

-- the list that a text is
abbrev pub list_of : List ℕ → Option (List ℕ)
list_of text = if bytes_eq text (codes "0") then Some [] else numbers_of (parts (byte ",") text)

-- the arrangement that four texts are
abbrev pub arrangement_of : List (List ℕ) → Option Arrangement
arrangement_of (first ∷ second ∷ third ∷ fourth ∷ []) = do
  s1 ← list_of first
  s2 ← list_of second
  s1r ← list_of third
  s2r ← list_of fourth
  Some (record { s1 = s1; s2 = s2; s1r = s1r; s2r = s2r })
arrangement_of _ = None

-- the arrangement that a text is, of whatever bracket
abbrev pub parsed : List ℕ → Option Arrangement
parsed bytes = arrangement_of (parts (byte "/") bytes)

-- a text is four such lists, of whatever bracket [with cursor_text]
abbrev pub has_syntax : List ℕ → Bool
has_syntax bytes = is_some (parsed bytes)

-- each number is above the one before it, and the first one above a bound
abbrev pub ascends_above : ℕ → List ℕ → Bool
ascends_above bound [] = true
ascends_above bound (x ∷ xs) = ltb bound x && ascends_above x xs

-- no number comes twice
abbrev pub are_different : List ℕ → Bool
are_different [] = true
are_different (x ∷ xs) = not (is_member x xs) && are_different xs

-- all numbers are of a pool
abbrev pub are_of : List ℕ → List ℕ → Bool
are_of pool numbers = list_all (λ x. is_member x pool) numbers

-- a list is an ascending one of k numbers of a pool
abbrev pub is_set_of : List ℕ → ℕ → List ℕ → Bool
is_set_of pool k set = (length set == k) && (are_of pool set && ascends_above 0 set)

-- a list is one of k different numbers of a pool
abbrev pub is_tuple_of : List ℕ → ℕ → List ℕ → Bool
is_tuple_of pool k tuple = (length tuple == k) && (are_of pool tuple && are_different tuple)

-- the numbers of the moved-down players [with players_of]
abbrev pub moved_down_of : Frame → List ℕ
moved_down_of frame = numbers_from 1 frame.mdps

-- an arrangement is one of a shape, of such moved-down players and residents: S1 of those moved down, S2 of residents, S1R
-- of those not in S2, S2R of those in neither
abbrev pub is_among : List ℕ → List ℕ → Shape → Arrangement → Bool
is_among moved_down residents shape a =
    is_set_of moved_down shape.mdps a.s1
    && (is_tuple_of residents shape.mdps a.s2
    && (is_set_of (left_of residents a.s2) (remainder_pairs shape) a.s1r
    && is_tuple_of (left_of (left_of residents a.s2) a.s1r) (remainder_pairs shape) a.s2r))

-- an arrangement is one of the bracket and shape [with cursor_of]
abbrev pub is_of : Frame → Shape → Arrangement → Bool
is_of frame shape a = is_among (moved_down_of frame) (residents_of frame) shape a

-- an arrangement, if it is of the bracket and shape
abbrev pub of_bracket : Frame → Shape → Option Arrangement → Result Arrangement CursorFault
of_bracket frame shape None = Err Syntax
of_bracket frame shape (Some a) = if is_of frame shape a then Ok a else Err NotOfBracket

-- the arrangement of the bracket and shape that a text is, or why it is none [own]
abbrev pub cursor_of : Frame → Shape → List ℕ → Result Arrangement CursorFault
cursor_of frame shape bytes = of_bracket frame shape (parsed bytes)
