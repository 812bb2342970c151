-- Transpositions (C.04.3 D.1): tuples in the order of their numbers.
use Rattle.std.specs.Prelude.{ℕ, zero, suc, Bool, List, [], ◌++◌, filter, length, take}
use Rattle.dutch_sequence.specs.Choices.{tuples, all_meet}
use Rattle.dutch_sequence.specs.Keys.{sorted, lower_first}

-- all lists of so many numbers of a pool, the one first that has the lower number at the first difference [D.1]
abbrev pub all_tuples : List ℕ → ℕ → List (List ℕ)
all_tuples pool k = sorted lower_first (tuples pool k)

-- of these lists those that are as long as a first list and whose players may meet those of the first list, place by place [D.1]
abbrev pub transpositions : (ℕ → ℕ → Bool) → List ℕ → List ℕ → List (List ℕ)
transpositions meets first pool = filter (all_meet meets first) (all_tuples pool (length first))

-- the beginnings shorter than k, the empty one among them: tuples of the pool whose players may meet the first ones so far
abbrev pub beginnings_below : (ℕ → ℕ → Bool) → List ℕ → List ℕ → ℕ → List (List ℕ)
beginnings_below meets first pool zero = []
beginnings_below meets first pool (suc k) =
    beginnings_below meets first pool k ++ filter (all_meet meets (take k first)) (tuples pool k)

-- the beginnings of such lists that are too short, the empty one among them; each is tried once with each number of the pool [own]
abbrev pub short_beginnings : (ℕ → ℕ → Bool) → List ℕ → List ℕ → List (List ℕ)
short_beginnings meets first pool = beginnings_below meets first pool (length first)
