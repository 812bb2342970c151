-- Where a search may stand: a model that carries the search, and which a reader of the promises may pass by.
use Rattle.std.specs.Prelude.{◌≡◌, ℕ, ◌+◌, ◌-◌, ◌*◌, ◌<◌, ◌≤◌, List, [], ◌∷◌, ◌++◌, length, true, if◌then◌else◌, Option}
use Rattle.dutch_sequence.specs.Trials.{Plan, below, ahead, lower, lowest}
use Rattle.dutch_sequence.specs.declared.search.Descent.{Descent}
use Rattle.dutch_sequence.specs.declared.numbers.TheConstants.{LIMIT}

-- each number of a path, after a beginning, is below the end of the numbers that its place tries, and fits there
abbrev pub Walked : Plan → List ℕ → List ℕ → Type 0
Walked plan beginning [] = Unit {0}
Walked plan beginning (number ∷ path) = (number < plan.stop beginning) × (plan.fits beginning number ≡ true) × Walked plan (beginning ++ number ∷ []) path

-- a path is one of the search's, and fills no more than its places
abbrev pub Stands : Plan → List ℕ → Type 0
Stands plan path = (length path ≤ plan.places) × Walked plan [] path

-- and a place is open
abbrev pub IsOpen : Plan → List ℕ → Type 0
IsOpen plan path = (length path < plan.places) × Walked plan [] path

-- nothing is left below a path from a number on
abbrev pub IsSpent : Plan → List ℕ → ℕ → Type 0
IsSpent plan path number = below plan (plan.places - length path) path number ≡ []

-- a path follows all those that go on from another one: at the first place where it differs from that one it has a higher number, which
-- is one that this place tries
pub record IsPast (plan : Plan) (path later : List ℕ) : Type 0 where
  pub front : List ℕ
  pub number : ℕ
  pub rest : List ℕ
  pub next : ℕ
  pub others : List ℕ
  pub here : path ≡ front ++ number ∷ rest
  pub there : later ≡ front ++ next ∷ others
  pub above : number < next
  pub tried : next < plan.stop front

-- how many moves a search can make at most that are no trial: it gives back each place, and stands still at each beginning once
abbrev pub free_moves : {room : ℕ} → Descent room → ℕ
free_moves descent = 2 * length descent.path + (if descent.asked then 0 else 1)

-- what lies beyond the trials of a search, those made and those to come, if anything was noted
abbrev pub beyond_all : Plan → Descent LIMIT → Option ℕ
beyond_all plan descent = lower descent.beyond (lowest (ahead plan descent.path descent.number))
