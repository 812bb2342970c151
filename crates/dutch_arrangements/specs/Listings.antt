-- What a listing of candidates has still to give.
use Rattle.std.specs.Prelude.{◌≡◌, ℕ, ◌-◌, ◌*◌, Bool, true, false, ◌&&◌, nat_lt, List, [], ◌∷◌, length, Option, Some, None}
use Rattle.std.specs.List.{AllByRecursion}
use Rattle.dutch_sequence.specs.Keys.{IsIn}
use Rattle.dutch_arrangements.specs.declared.bracket.Shape.{Shape}
use Rattle.dutch_arrangements.specs.Arrangements.{Frame, Arrangement, candidates, down, rest}
use Rattle.dutch_arrangements.specs.Candidates.{Candidate}
use Rattle.dutch_sequence.specs.Steps.{MatchStep, Passes}
use Rattle.dutch_sequence.specs.declared.steps.Budget.{Budget}
use Rattle.dutch_sequence.specs.declared.steps.Step.{Step}

-- a listing: the bracket, the shape and the rule whose candidates are listed; those still to come; the arrangement behind which they stand,
-- if there is one (the candidate handed out last, or before that, the one from which the listing began); and whether the end was told [own]
pub record Listing (R : Type 0) : Type 0 where
  pub frame : Frame
  pub shape : Shape
  pub rule : R
  pub coming : List Arrangement
  pub latest : Option Arrangement
  pub ended : Bool

-- what a place holds, if it holds anything
abbrev pub only_if : {T : Type 0} → Bool → T → Option T
only_if true x = Some x
only_if false x = None

-- what is still to come of a list: nothing, once the end was told
abbrev pub still_coming : {T : Type 0} → Bool → List T → List T
still_coming true xs = []
still_coming false xs = xs

-- the candidates behind a cursor, or all if there is none
abbrev pub candidates_from : (ℕ → ℕ → Bool) → (ℕ → Bool) → Frame → Shape → Option Arrangement → List Arrangement
candidates_from meets may_be_left frame shape None = candidates meets may_be_left frame shape
candidates_from meets may_be_left frame shape (Some own) = rest meets may_be_left frame shape own

-- all of a list are candidates
unfoldable pub AreCandidates : (ℕ → ℕ → Bool) → (ℕ → Bool) → Frame → Shape → List Arrangement → Type 0
AreCandidates meets may_be_left frame shape list = AllByRecursion (λ a. IsIn a (candidates meets may_be_left frame shape)) list

-- every arrangement leaves over more than its bracket may leave: two or more, where at most one may be left [C.2; own]
abbrev pub leaves_too_many : Frame → Shape → Bool
leaves_too_many frame shape = frame.last && nat_lt 1 (length frame.scores - 2 * shape.pairs)

-- a call answers the end, and makes no step [with leaves_too_many]
abbrev pub EndsAtOnce : {T : Type 0} → Step T → Budget → Budget → Type 0
EndsAtOnce step old new = MatchStep step (λ _. ⊥) (new.used ≡ old.used) ⊥

module _ {R : Type 0} (old new : Listing R) where
  -- a listing has told its end where a call answers it, and otherwise is as it was [with leaves_too_many]
  abbrev pub TellsEnd : {T : Type 0} → Step T → Type 0
  TellsEnd step = MatchStep step (λ _. new.ended ≡ old.ended) (new.ended ≡ true) (new.ended ≡ old.ended)

  -- what is given is the first of those to come, with whom it leaves over; it is the one handed out last [B.6, B.7; own]
  abbrev pub Gives : Candidate → Type 0
  Gives c = (old.coming ≡ c.lists ∷ new.coming) × (c.down ≡ down old.frame c.lists) × (new.latest ≡ Some c.lists)

  -- none was to come [with Gives]
  abbrev pub Ends : Type 0
  Ends = (old.coming ≡ []) × (new.coming ≡ []) × (new.latest ≡ old.latest)

  -- the limit was reached; what is to come stays as it was [with Gives]
  abbrev pub Stops : Budget → Type 0
  Stops budget = (new.coming ≡ old.coming) × (new.latest ≡ old.latest) × (budget.used ≡ budget.limit)

  -- what is given is of those to come, behind some that are pruned, which are skipped [own]
  abbrev pub GivesPast : (Arrangement → Type 0) → Candidate → Type 0
  GivesPast Pruned c =
      Passes Pruned old.coming (c.lists ∷ new.coming) × (c.down ≡ down old.frame c.lists) × (new.latest ≡ Some c.lists)

  -- all that was to come is pruned, and is skipped [with GivesPast]
  abbrev pub EndsPast : (Arrangement → Type 0) → Type 0
  EndsPast Pruned = Passes Pruned old.coming [] × (new.coming ≡ []) × (new.latest ≡ old.latest)

  -- the limit was reached behind some that are pruned, which are skipped [with GivesPast]
  abbrev pub StopsPast : (Arrangement → Type 0) → Budget → Type 0
  StopsPast Pruned budget = Passes Pruned old.coming new.coming × (new.latest ≡ old.latest) × (budget.used ≡ budget.limit)
