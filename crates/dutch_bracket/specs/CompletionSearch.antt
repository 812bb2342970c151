-- How completable players are searched: a form that carries the search, and which a reader of the promises may pass by.
use Rattle.std.specs.Prelude.{ℕ, zero, suc, Bool, true, false, ◌&&◌, ◌||◌, List, [], ◌∷◌, ◌++◌}
use Rattle.dutch_sequence.specs.declared.steps.Budget.{Budget}
use Rattle.dutch_bracket.specs.declared.answer.Answer.{Answer}
use Rattle.dutch_bracket.specs.Completion.{SpendsAtMost, IsStopped, Takes, Tells}

-- one of the later players, behind those between, may meet the first one and leaves players of whom something holds
abbrev pub some_partner : (ℕ → Bool) → (List ℕ → Bool) → List ℕ → List ℕ → Bool
some_partner meets holds between [] = false
some_partner meets holds between (b ∷ after) = (meets b && holds (between ++ after)) || some_partner meets holds (between ++ b ∷ []) after

-- nobody may be left out
abbrev pub nobody : ℕ → Bool
nobody a = false

-- who may be left out, where one may be (`bye`) or none
abbrev pub left_over : Bool → (ℕ → Bool) → ℕ → Bool
left_over bye may_be_left a = bye && may_be_left a

-- players of a number can be paired out: the first of the players meets a later one, or is the one left out
abbrev pub can_cover : (ℕ → ℕ → Bool) → (ℕ → Bool) → ℕ → List ℕ → Bool
can_cover meets may_be_left zero players = true
can_cover meets may_be_left (suc n) [] = false
can_cover meets may_be_left (suc zero) (a ∷ later) = may_be_left a
can_cover meets may_be_left (suc (suc n)) (a ∷ later) =
    some_partner (meets a) (can_cover meets may_be_left n) [] later || (may_be_left a && can_cover meets nobody (suc n) later)

-- players of a number can be paired out, where one may be left out (`bye`) or none
abbrev pub can_go : (ℕ → ℕ → Bool) → (ℕ → Bool) → Bool → ℕ → List ℕ → Bool
can_go meets may_be_left bye = λ n players. can_cover meets (left_over bye may_be_left) n players

-- an answer tells what a test says in at most so many steps; Yes takes one at least for each two players, No one for each trial
pub record Searched (answer : Answer) (test : Bool) (most players trials : ℕ) (old new : Budget) : Type 0 where
  pub told : Tells answer test (IsStopped most old new)
  pub steps : SpendsAtMost most old new
  pub taken : Takes answer players trials old new
