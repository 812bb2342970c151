-- The lists of a text that is read, and how many numbers a cursor has room for: a model that carries the reading, and which a reader
-- of its promise may pass by.
use Rattle.std.specs.Prelude.{ℕ, ◌<◌, ◌&&◌, Bool, nat_le, List, length, Option, IfSome}
use Rattle.dutch_arrangements.specs.Arrangements.{Arrangement}
use Rattle.dutch_sequence.specs.declared.numbers.TheConstants.{LIMIT}

-- if there is a list, it has more than LIMIT numbers
abbrev pub IsLong : Option (List ℕ) → Type 0
IsLong list = IfSome list (λ numbers. LIMIT < length numbers)

-- each list of an arrangement has at most LIMIT numbers
abbrev pub is_short : Arrangement → Bool
is_short a = nat_le (length a.s1) LIMIT && (nat_le (length a.s2) LIMIT && (nat_le (length a.s1r) LIMIT && nat_le (length a.s2r) LIMIT))
