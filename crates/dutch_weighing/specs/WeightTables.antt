-- What the pairs and the downfloaters of a bracket weigh, and what each weighs in the next bracket (C.04.3 C.7), by number, and tables of
-- it. What bounds the choice by beginnings stands on these; a reader of its promise may pass them by.
use Rattle.std.specs.Prelude.{◌≡◌, ℕ, ◌+◌, ◌-◌, ◌*◌, ◌^◌, ◌<◌, ◌≤◌, Option, None, Some, List, [], ◌∷◌, length, slice_index, slice_index_or, nat_le, if◌then◌else◌}
use Rattle.std.specs.Option.{ForSome, SomeIff}
use Rattle.dutch_bracket.specs.Prelude.{Context, count_below, score_below, seat_below, Reached, numbers_meet, difference_down, score_at}
use Rattle.dutch_weighing.specs.Weights.{Scale, Weighing, weight_below, weight_of_one_down, weight_of_pair, written}
use Rattle.dutch_weighing.specs.declared.weighing.NextWeight.{NextWeight}
use Rattle.dutch_weighing.specs.declared.weighing.PairTable.{PairTable}

-- a number that is there exactly where it is less than 2^1024 [own]
abbrev pub IsThere : Option ℕ → ℕ → Type 0
IsThere number k = SomeIff number (k < 2 ^ 1024) k

-- a number that is written: there is none only where it is 2^1024 or more
abbrev pub IsWritten : Option ℕ → ℕ → Type 0
IsWritten None k = ¬ (k < 2 ^ 1024)
IsWritten (Some number) k = number ≡ k

-- behind a number, if it is written, stand digits too
abbrev pub PutsBehind : Option ℕ → List (ℕ × ℕ) → Option ℕ → Type 0
PutsBehind front digits number = (k : ℕ) → IsWritten front k → IsWritten number (written k digits)

-- a number of a bracket [with IsHeavy]
abbrev pub IsNumber : Reached → ℕ → Type 0
IsNumber reached a = (0 < a) × (a ≤ length reached.seats)

-- a bracket of a field above lower seats, on a scale [own]
abbrev pub weighed_on : Context → Scale → Weighing
weighed_on context scale = record { facts = context.facts; reached = context.reached; lower = context.lower; scale = scale }

-- where a table of pairs has two numbers of so many players, which count from 1
abbrev pub place_of : ℕ → ℕ → ℕ → ℕ
place_of n x y = (x - 1) * n + (y - 1)

-- where it has two of a bracket
abbrev pub place_in : Weighing → ℕ → ℕ → ℕ
place_in w a b = place_of (length w.reached.seats) a b

-- what two numbers weigh as a pair
abbrev pub pair_weight : Weighing → ℕ → ℕ → ℕ
pair_weight w = weight_of_pair w.facts w.reached w.scale

-- what a number weighs as a downfloater
abbrev pub down_weight : Weighing → ℕ → ℕ
down_weight w = weight_of_one_down w.facts w.reached w.scale

-- numbers of pairs tell what is so of each pair whose place is before an end
abbrev pub TellsUpto : {X : Type 0} → Weighing → (ℕ → ℕ → X) → List X → ℕ → Type 0
TellsUpto {X} w of_pair list end =
    (a b : ℕ) (d : X) → IsNumber w.reached a → IsNumber w.reached b → place_in w a b < end → slice_index_or list (place_in w a b) d ≡ of_pair a b

-- a table tells of each pair whose place is before an end what it weighs, and whether the two may meet (C.1, C.3)
abbrev pub TellsPairsUpto : Weighing → PairTable → ℕ → Type 0
TellsPairsUpto w table end =
    TellsUpto w (pair_weight w) table.weights end × TellsUpto w (numbers_meet w.facts w.reached) table.meets.items end

-- a table has a place for each pair
abbrev pub HasPairs : Weighing → PairTable → Type 0
HasPairs w table =
    (length table.weights ≡ length w.reached.seats * length w.reached.seats)
    × (length table.meets.items ≡ length w.reached.seats * length w.reached.seats)

-- a table has a place for each number
abbrev pub HasAll : Weighing → List ℕ → Type 0
HasAll w table = length table ≡ length w.reached.seats

-- numbers of pairs tell what is so of each pair
abbrev pub TellsEach : {X : Type 0} → Weighing → (ℕ → ℕ → X) → List X → Type 0
TellsEach {X} w of_pair list =
    (a b : ℕ) (d : X) → IsNumber w.reached a → IsNumber w.reached b → slice_index_or list (place_in w a b) d ≡ of_pair a b

-- a table tells of each pair what it weighs, and whether the two may meet
abbrev pub TellsPairs : Weighing → PairTable → Type 0
TellsPairs w table = TellsEach w (pair_weight w) table.weights × TellsEach w (numbers_meet w.facts w.reached) table.meets.items

-- a table tells what each of the first numbers weighs as a downfloater
abbrev pub TellsDownUpto : Weighing → List ℕ → ℕ → Type 0
TellsDownUpto w table end = (a : ℕ) → IsNumber w.reached a → a ≤ end → slice_index table (a - 1) ≡ down_weight w a

-- a table tells what each downfloater weighs
abbrev pub TellsDown : Weighing → List ℕ → Type 0
TellsDown w table = (a : ℕ) → IsNumber w.reached a → slice_index table (a - 1) ≡ down_weight w a

-- a number of a bracket, or behind those one of the next lower scoregroup [own]
abbrev pub IsNumberBelow : Weighing → ℕ → Type 0
IsNumberBelow w a = (0 < a) × (a ≤ count_below w.facts w.reached w.lower)

-- its score
abbrev pub score_of : Weighing → ℕ → ℕ
score_of w a = score_at w.facts (seat_below w.facts w.reached w.lower a)

-- what a number of the bracket weighs as a downfloater; one of the next lower scoregroup weighs nothing
abbrev pub own_weight : Weighing → ℕ → ℕ
own_weight w a = if nat_le a (length w.reached.seats) then down_weight w a else 0

-- what a number weighs that meets one of the next lower scoregroup in the next bracket [C.7; own]
abbrev pub met_weight : Weighing → ℕ → ℕ
met_weight w a = own_weight w a + weight_below w.scale 0 ((score_of w a - score_below w.facts w.lower) ∷ [])

-- what a number weighs that is in no pair of the next bracket [with met_weight]
abbrev pub alone_weight : Weighing → ℕ → ℕ
alone_weight w a =
    own_weight w a
    + weight_below w.scale 1 (difference_down w.facts (score_below w.facts w.lower) (seat_below w.facts w.reached w.lower a) ∷ [])

-- C.7: what a number weighs in the next bracket, one way and the other
abbrev pub next_weight_of : Weighing → ℕ → NextWeight
next_weight_of w a = record { met = met_weight w a; alone = alone_weight w a }

-- a table has a place for each number of the bracket and the next lower scoregroup
abbrev pub HasBelow : Weighing → List NextWeight → Type 0
HasBelow w table = length table ≡ count_below w.facts w.reached w.lower

-- a table tells of each of the first numbers what it weighs in the next bracket
abbrev pub TellsBelowUpto : Weighing → List NextWeight → ℕ → Type 0
TellsBelowUpto w table end = (a : ℕ) (d : NextWeight) → IsNumberBelow w a → a ≤ end → slice_index_or table (a - 1) d ≡ next_weight_of w a

-- and of all
abbrev pub TellsEachBelow : Weighing → List NextWeight → Type 0
TellsEachBelow w table = (a : ℕ) (d : NextWeight) → IsNumberBelow w a → slice_index_or table (a - 1) d ≡ next_weight_of w a

-- if the next bracket is measured, a table has a place for each number and tells of all
abbrev pub TellsBelow : Weighing → List NextWeight → Type 0
TellsBelow w table = ForSome w.scale.next (λ _. HasBelow w table × TellsEachBelow w table)

-- a pair, a downfloater, or one in the next bracket weighs so much or more [own]
pub data IsHeavy (w : Weighing) (most : ℕ) : Type 0 where
  pair : (a b : ℕ) → IsNumber w.reached a → IsNumber w.reached b → most ≤ pair_weight w a b → IsHeavy w most
  one_down : (a : ℕ) → IsNumber w.reached a → most ≤ down_weight w a → IsHeavy w most
  met : (a : ℕ) → IsNumberBelow w a → most ≤ met_weight w a → IsHeavy w most
  alone : (a : ℕ) → IsNumberBelow w a → most ≤ alone_weight w a → IsHeavy w most
