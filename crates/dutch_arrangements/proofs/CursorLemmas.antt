-- Steps of reading a cursor: the parts of a text, and the lists of numbers.
use Rattle.std.proofs.Common.{◌≡◌, ℕ, Bool, true, false, ◌==◌, cond, List, [], ◌∷◌, refl, None}
use Rattle.dutch_arrangements.specs.Prelude.{onto_first, parts, arrangement_of}

-- a text with parts behind four of them is no arrangement
pub too_many : (s1 s2 s1r s2r text : List ℕ) → arrangement_of (s1 ∷ s2 ∷ s1r ∷ s2r ∷ parts 47 text) ≡ None
too_many s1 s2 s1r s2r [] = refl
too_many s1 s2 s1r s2r (b ∷ rest) = one (b == 47) (parts 47 rest)
  where
    one : (slash : Bool) (others : List (List ℕ)) → arrangement_of (s1 ∷ s2 ∷ s1r ∷ s2r ∷ cond slash ([] ∷ others) (onto_first b others)) ≡ None
    one true others = refl
    one false [] = refl
    one false (first ∷ others) = refl
