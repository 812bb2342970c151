-- Exchanges of moved-down players (C.04.3 D.3): sets of places of the bracket, by their scores and then by their numbers.
use Rattle.std.specs.Prelude.{ℕ, ◌+◌, ◌-◌, ◌<◌, ◌≤◌, List, map, length, slice_index}
use Rattle.std.specs.declared.cmp.Ordering.{Ordering}
use Rattle.std.specs.Ordering.{on, then_cmp}
use Rattle.dutch_sequence.specs.Choices.{subsets, numbers_from}
use Rattle.dutch_sequence.specs.Keys.{sorted, lower_first, higher_first}

-- the score of a player by their number, which counts from 1
abbrev pub score_of : List ℕ → ℕ → ℕ
score_of scores number = slice_index scores (number - 1)

-- the scores of the players of a set
abbrev pub scores_of : List ℕ → List ℕ → List ℕ
scores_of scores set = map (score_of scores) set

-- of two sets of moved-down players the one that has the higher score at the first difference goes first; with the same scores the one that
-- has the lower number at the first difference [D.3]
unfoldable pub limbo_cmp : List ℕ → List ℕ → List ℕ → Ordering
limbo_cmp scores = then_cmp (on (scores_of scores) higher_first) lower_first

-- all sets of k of the players with these scores, in this order [with limbo_cmp]
abbrev pub limbo_exchanges : List ℕ → ℕ → List (List ℕ)
limbo_exchanges scores k = sorted (limbo_cmp scores) (subsets (numbers_from 1 (length scores)) k)

-- scores that do not ascend [with limbo_cmp]
abbrev pub IsNonAscending : List ℕ → Type 0
IsNonAscending scores = (i : ℕ) → i + 1 < length scores → slice_index scores (i + 1) ≤ slice_index scores i
