-- How a search begins at a path that is known: a model that carries the search, and which a reader of the promises may pass by.
use Rattle.std.specs.Prelude.{ℕ, ◌==◌, List, [], ◌∷◌, if◌then◌else◌, Option, Some, None}
use Rattle.dutch_sequence.specs.Trials.{Plan}

-- the number that follows a path in a longer one that begins with it
abbrev pub hint_after : List ℕ → List ℕ → Option ℕ
hint_after [] path = None
hint_after (x ∷ hint) [] = Some x
hint_after (x ∷ hint) (y ∷ path) = if x == y then hint_after hint path else None

-- a number if there is one, and otherwise another
abbrev pub number_or : Option ℕ → ℕ → ℕ
number_or None other = other
number_or (Some number) other = number

-- a search that begins at a path: each place after a beginning of that path starts with the path's own number
abbrev pub hinted : List ℕ → Plan → Plan
hinted hint plan = record {
  places = plan.places;
  width = plan.width;
  start = λ path. number_or (hint_after hint path) (plan.start path);
  stop = plan.stop;
  fits = plan.fits;
  beyond = plan.beyond;
}

-- the first number that such a search tries
abbrev pub first_hint : List ℕ → ℕ
first_hint hint = number_or (hint_after hint []) 0
