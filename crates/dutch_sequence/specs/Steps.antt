-- What a call that may stop at a limit answers.
use Rattle.std.specs.Prelude.{◌≡◌, ◌≤◌, ℕ, ◌+◌, ◌-◌, ◌*◌, Bool, true, false, List, ◌++◌, Option, Result, Ok, Err}
use Rattle.std.specs.List.{AllByRecursion}
use Rattle.std.specs.Option.{MatchOption}
use Rattle.std.specs.Result.{MatchResult}
use Rattle.dutch_sequence.specs.Exchanged.{ExchangeClass}
use Rattle.dutch_sequence.specs.declared.steps.Budget.{Budget}
use Rattle.dutch_sequence.specs.declared.steps.Progress.{Progress}
use Rattle.dutch_sequence.specs.declared.steps.Progress.TheVariants.{Beginning, Whole, Over}
use Rattle.dutch_sequence.specs.declared.steps.Step.{Step}
use Rattle.dutch_sequence.specs.declared.steps.Step.TheVariants.{Found, End, Undecided}

-- what a generator has still to give: the choices to come, and how many trials it has still to make
pub record Ahead : Type 0 where
  pub coming : List (List ℕ)
  pub left : ℕ

-- the same of tuples, with the beginning at which the search stands, and how many moves it can make at most that are no trial
pub record TuplesAhead : Type 0 where
  pub coming : List (List ℕ)
  pub beginning : List ℕ
  pub free_moves : ℕ
  pub left : ℕ

-- the same of exchanges, whose beginning is told as a class of them
pub record SetsAhead : Type 0 where
  pub coming : List (List ℕ)
  pub exchange : ExchangeClass
  pub free_moves : ℕ
  pub left : ℕ

-- a fact for each answer of a call: something is found, there is none left, or the limit was reached [own]
abbrev pub MatchStep : {T : Type 0} → Step T → (T → Type 0) → Type 0 → Type 0 → Type 0
MatchStep (Found x) found ended undecided = found x
MatchStep End found ended undecided = ended
MatchStep Undecided found ended undecided = undecided

-- a fact for each answer of a call that is stopped at a limit, or says what it found [with MatchStep]
abbrev pub MatchFound : {T E : Type 0} → Result (Option T) E → (T → Type 0) → Type 0 → Type 0 → Type 0
MatchFound answer found none stopped = MatchResult answer (λ o. MatchOption o none found) (λ _. stopped)

-- a fact for each answer of one that says whether it found something [with MatchStep]
abbrev pub MatchDrawn : {E : Type 0} → Result Bool E → Type 0 → Type 0 → Type 0 → Type 0
MatchDrawn (Ok true) drawn none stopped = drawn
MatchDrawn (Ok false) drawn none stopped = none
MatchDrawn (Err e) drawn none stopped = stopped

-- a fact for each answer of a search that stands still at each beginning [with MatchStep]
abbrev pub MatchProgress : {E : Type 0} → Result Progress E → Type 0 → Type 0 → Type 0 → Type 0 → Type 0
MatchProgress (Ok Beginning) beginning whole over stopped = beginning
MatchProgress (Ok Whole) beginning whole over stopped = whole
MatchProgress (Ok Over) beginning whole over stopped = over
MatchProgress (Err e) beginning whole over stopped = stopped

-- how far such a search can come within a budget: it falls from one beginning to the next, so that none comes for ever [with MatchStep]
abbrev pub way : Budget → ℕ → ℕ
way budget free_moves = 4 * (budget.limit - budget.used) + free_moves

-- a list goes on as another one does, once some of its beginning is skipped, each member of which is pruned [own]
abbrev pub Passes : {T : Type 0} → (T → Type 0) → List T → List T → Type 0
Passes {T} Pruned before after = (skipped : List T) × (before ≡ skipped ++ after) × AllByRecursion Pruned skipped

-- a call keeps the limit of a budget, and takes back no step; that none is above the limit each budget says itself [own]
pub record Spends (old new : Budget) : Type 0 where
  pub limit : new.limit ≡ old.limit
  pub rises : old.used ≤ new.used
