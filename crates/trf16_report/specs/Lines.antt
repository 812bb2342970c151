-- The lines of a text, and the columns of a line.
use Rattle.std.specs.Prelude.{ℕ, ◌-◌, Bool, ◌&&◌, ◌||◌, ◌==◌, nat_le, nat_lt, if◌then◌else◌, List, [], ◌∷◌, ◌++◌, slice_range}
use Rattle.std.specs.List.{list_all}
use Rattle.std.specs.Str.{byte}

-- the text without the byte order marks in front of it, however many [own]
abbrev pub without_marks : List ℕ → List ℕ
without_marks (a ∷ b ∷ c ∷ rest) = if (a == 0xEF) && (b == 0xBB) && (c == 0xBF) then without_marks rest else a ∷ b ∷ c ∷ rest
without_marks bytes = bytes

-- a carriage return or a line feed [with lines]
abbrev pub ends_line : ℕ → Bool
ends_line b = (b == byte "\r") || (b == byte "\n")

-- a byte put in front of the first of some lists
abbrev pub onto_first : ℕ → List (List ℕ) → List (List ℕ)
onto_first b [] = (b ∷ []) ∷ []
onto_first b (first ∷ others) = (b ∷ first) ∷ others

-- the lines of a text, which CR LF, LF or CR ends; behind the last end there is no further line [TRF16; own]
abbrev pub lines : List ℕ → List (List ℕ)
lines [] = []
lines (b ∷ []) = if ends_line b then [] ∷ [] else (b ∷ []) ∷ []
lines (b ∷ c ∷ rest) =
    if (b == byte "\r") && (c == byte "\n") then [] ∷ lines rest
    else (if ends_line b then [] ∷ lines (c ∷ rest) else onto_first b (lines (c ∷ rest)))

-- a byte that goes on with a character of UTF-8, from 80 to BF
abbrev pub goes_on : ℕ → Bool
goes_on b = nat_le 0x80 b && nat_lt b 0xC0

-- the columns of a line: its characters where the text is UTF-8, else its bytes [TRF16; own]
abbrev pub columns : Bool → List ℕ → List (List ℕ)
columns utf8 [] = []
columns utf8 (b ∷ []) = (b ∷ []) ∷ []
columns utf8 (b ∷ c ∷ rest) = if utf8 && goes_on c then onto_first b (columns utf8 (c ∷ rest)) else (b ∷ []) ∷ columns utf8 (c ∷ rest)

-- the bytes of some columns [with text]
abbrev pub joined : List (List ℕ) → List ℕ
joined [] = []
joined (column ∷ others) = column ++ joined others

-- the bytes of the columns first to last, which count from 1; columns past the line's end are missing [TRF16]
abbrev pub text : List (List ℕ) → ℕ → ℕ → List ℕ
text line first last = joined (slice_range line (first - 1) last)

-- nothing but blanks, which are space characters [own]
abbrev pub is_blank : List ℕ → Bool
is_blank bytes = list_all (λ b. b == byte " ") bytes
