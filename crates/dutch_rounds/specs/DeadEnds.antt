-- Why no bracket that a round reaches is a dead end (C.04.3 A.9): who cannot meet in it, and in any list of pairs behind it.
use Rattle.std.specs.Prelude.{◌≡◌, ℕ, false, List, take}
use Rattle.dutch_arrangements.specs.Prelude.{IsIn}
use Rattle.dutch_player.specs.Prelude.{Facts}
use Rattle.dutch_bracket.specs.Completion.{Covers, MayBeLeftOut}
use Rattle.dutch_bracket.specs.Prelude.{Reached, seats_meet, seats_may_be_left}

-- the players who were moved down into a bracket [with PairOut]
abbrev pub moved_down : Reached → List ℕ
moved_down reached = take reached.mdps reached.seats

-- no two of some players may meet [with PairOut]
abbrev pub NoTwoMayMeet : Facts → List ℕ → Type 0
NoTwoMayMeet facts players = (a b : ℕ) → IsIn a players → IsIn b players → seats_meet facts a b ≡ false

-- a list of pairs of those who may meet pairs some players out: it leaves out at most one of them, who may be left out [A.9, C.1 to C.3]
pub record PairOut (facts : Facts) (players : List ℕ) (pairs : List (ℕ × ℕ)) : Type 0 where
  pub out : List ℕ
  pub covered : Covers (seats_meet facts) players pairs out
  pub left_out : MayBeLeftOut (seats_may_be_left facts) out

-- no pair is of two of some players [with PairOut]
abbrev pub HasNoPairOf : List ℕ → List (ℕ × ℕ) → Type 0
HasNoPairOf players pairs = (a b : ℕ) → IsIn a players → IsIn b players → ¬ IsIn (a, b) pairs
