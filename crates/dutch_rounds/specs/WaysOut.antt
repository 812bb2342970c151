-- What the walk over the brackets keeps, so that it never comes to one without a candidate (C.04.3 A.9, C.5): a model that carries the
-- round's proof.
use Rattle.std.specs.Prelude.{◌≡◌, ℕ, ◌+◌, ◌<◌, ◌≤◌, true, List, [], ◌++◌, length}
use Rattle.dutch_arrangements.specs.Prelude.{NoneTwice, IsIn}
use Rattle.dutch_player.specs.Prelude.{Facts}
use Rattle.dutch_bracket.specs.declared.reached.BracketKind.{BracketKind}
use Rattle.dutch_bracket.specs.declared.reached.BracketKind.TheVariants.{Ordinary, Last, Penultimate, Collapsed}
use Rattle.dutch_bracket.specs.Completion.{Completable}
use Rattle.dutch_bracket.specs.Prelude.{HasCandidate, Reached, bracket, seats_meet, seats_may_be_left}
use Rattle.dutch_rounds.specs.Walk.{AreAbove, Goes}

-- those moved down and those below them can be paired out, each is there once, and no two of those moved down may meet
pub record GoesOut (facts : Facts) (md rest : List ℕ) : Type 0 where
  pub twice : NoneTwice (md ++ rest)
  pub strangers : (s t : ℕ) → IsIn s md → IsIn t md → seats_meet facts s t ≡ true → ⊥
  pub complete : Completable (seats_meet facts) (seats_may_be_left facts) (md ++ rest)

-- the way out of a bracket, by its kind: its players and the lower ones go out, or it is known to have a candidate; and its number is small
abbrev pub HasWayOut : Facts → BracketKind → ℕ → List ℕ → List ℕ → List ℕ → Type 0
HasWayOut facts Ordinary number md residents lower = GoesOut facts md (residents ++ lower) × (0 < length lower) × (number + length lower ≤ length facts.seats)
HasWayOut facts Last number md residents lower = GoesOut facts md (residents ++ lower) × (lower ≡ []) × (number ≤ length facts.seats)
HasWayOut facts Penultimate number md residents lower = GoesOut facts md (residents ++ lower) × (number ≤ length facts.seats) × (0 < length lower)
HasWayOut facts Collapsed number md residents lower =
    HasCandidate facts (bracket number Collapsed md residents) lower × (lower ≡ []) × (number ≤ length facts.seats + 1)

-- the bracket of a number, of those moved down and some residents, which comes next in a walk, above the lower seats
pub record StandsBefore (facts : Facts) (number : ℕ) (reached : Reached) (lower : List ℕ) : Type 0 where
  pub md : List ℕ
  pub residents : List ℕ
  pub is : reached ≡ bracket number reached.kind md residents
  pub goes : Goes facts md (residents ++ lower)
  pub above : AreAbove facts residents lower
  pub some : 0 < length residents
  pub out : HasWayOut facts reached.kind number md residents lower
