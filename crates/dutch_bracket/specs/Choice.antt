-- The choice among candidates (C.04.3 B.8): the first that none is better than.
use Rattle.std.specs.Prelude.{Bool, not, List, [], ◌∷◌, filter, Option, Some, None, if◌then◌else◌}
use Rattle.std.specs.List.{list_any}

module _ {X : Type 0} (is_better : X → X → Bool) where
  -- none of some candidates is better than this one
  abbrev pub is_unbeaten : List X → X → Bool
  is_unbeaten all c = not (list_any (λ d. is_better d c) all)

  -- the first of some candidates that none of all is better than
  abbrev pub first_unbeaten : List X → List X → Option X
  first_unbeaten all [] = None
  first_unbeaten all (c ∷ rest) = if is_unbeaten all c then Some c else first_unbeaten all rest

  -- the first candidate that none is better than [B.8]
  abbrev pub best : List X → Option X
  best candidates = first_unbeaten candidates candidates

  -- the best of one that is kept, if there is one, and those of others that fit
  abbrev pub best_with : (X → Bool) → Option X → List X → Option X
  best_with fits None rest = best (filter fits rest)
  best_with fits (Some kept) rest = best (kept ∷ filter fits rest)
