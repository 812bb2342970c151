-- The model that carries a search, and which a reader of the generators' promises may pass by: its events, of which some are trials
-- and some choices found, as a list of what is still to come.
use Rattle.std.specs.Prelude.{ℕ, zero, suc, ◌+◌, ◌-◌, min, Bool, cond, Option, Some, None, List, [], ◌∷◌, ◌++◌, length, flat_map}
pub use Rattle.dutch_sequence.specs.Choices.{numbers_from}

-- what a search fills: how many places, below which number all its numbers are, from which to which number it tries at the place
-- after a beginning, whether a number fits there, and what a number that does not fit would have given at least, if that is known
pub record Plan : Type 0 where
  pub places : ℕ
  pub width : ℕ
  pub start : List ℕ → ℕ
  pub stop : List ℕ → ℕ
  pub fits : List ℕ → ℕ → Bool
  pub beyond : List ℕ → ℕ → Option ℕ

-- an event of a search: a trial of a number at a place, with what lies beyond it, or a whole path found
pub data Event : Type 0 where
  Tried : Option ℕ → Event
  Hit : List ℕ → Event

-- the paths that are found
abbrev pub hits : List Event → List (List ℕ)
hits [] = []
hits (Tried beyond ∷ events) = hits events
hits (Hit path ∷ events) = path ∷ hits events

-- how many trials are made
abbrev pub trials : List Event → ℕ
trials [] = 0
trials (Tried beyond ∷ events) = trials events + 1
trials (Hit path ∷ events) = trials events

-- the lower of two numbers, either of which may be missing
abbrev pub lower : Option ℕ → Option ℕ → Option ℕ
lower None other = other
lower (Some x) None = Some x
lower (Some x) (Some y) = Some (min x y)

-- the lowest number that lies beyond a trial
abbrev pub lowest : List Event → Option ℕ
lowest [] = None
lowest (Tried beyond ∷ events) = lower beyond (lowest events)
lowest (Hit path ∷ events) = lowest events

module _ (plan : Plan) where
  -- the first number to try after a beginning, if so many places are open
  abbrev pub entry : ℕ → List ℕ → ℕ
  entry zero path = 0
  entry (suc open_places) path = plan.start path

  -- the events after a beginning, if so many places are open, from a number on
  unfoldable pub below : ℕ → List ℕ → ℕ → List Event
  below zero path zero = Hit path ∷ []
  below zero path (suc number) = []
  below (suc open_places) path number =
      flat_map
      (λ tried. Tried (plan.beyond path tried) ∷ cond (plan.fits path tried) (below open_places (path ++ tried ∷ []) (entry open_places (path ++ tried ∷ []))) [])
      (numbers_from number (plan.stop path - number))

  -- the events after all of those below a path
  unfoldable pub after : ℕ → List ℕ → List ℕ → List Event
  after zero beginning path = []
  after (suc open_places) beginning [] = []
  after (suc open_places) beginning (number ∷ path) =
      after open_places (beginning ++ number ∷ []) path ++ below (suc open_places) beginning (suc number)

  -- the events to come if a path is taken and a number is the next to be tried at its end
  unfoldable pub ahead : List ℕ → ℕ → List Event
  ahead path number = below (plan.places - length path) path number ++ after plan.places [] path
