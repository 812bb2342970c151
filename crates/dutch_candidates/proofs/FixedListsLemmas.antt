-- The lists of a beginning: the fronts of S1 and of S1R that have opponents.
use Rattle.std.proofs.Common.{◌≡◌, List, ℕ, [], ◌∷◌, length, take, refl, ap, inl, inr}
use Rattle.dutch_arrangements.specs.Prelude.{Arrangement, BeginsAt, GoesOn}
use Rattle.dutch_arrangements.specs.declared.prefix.Filling.{Filling}
use Rattle.dutch_arrangements.specs.declared.prefix.Filling.TheVariants.{ChoosingS1, S2, S2r}
use Rattle.dutch_bracket.specs.Prelude.{seat_of, pairs_of, HasPairsOf, LacksEndOfS2r, lists_by}
use Rattle.dutch_bracket.proofs.FixedPairs.{has_pairs}

pub front_pairs : (seats firsts seconds : List ℕ) → pairs_of seats (take (length seconds) firsts) seconds ≡ pairs_of seats firsts seconds
front_pairs seats [] [] = refl
front_pairs seats [] (b ∷ seconds) = refl
front_pairs seats (a ∷ firsts) [] = refl
front_pairs seats (a ∷ firsts) (b ∷ seconds) = ap (λ pairs. (seat_of seats a, seat_of seats b) ∷ pairs) (front_pairs seats firsts seconds)

-- a list goes on from nothing
from_nothing : (xs : List ℕ) → GoesOn [] xs
from_nothing xs = record { rest = xs; is = refl }

lacking : (lists a : Arrangement) → BeginsAt S2r lists a → LacksEndOfS2r (lists_by S2r lists) a
lacking lists a h = record { s1 = h.0; s2 = h.1; s1r = h.2; s2r = h.3 }

-- what a beginning fixes are pairs of each arrangement that begins so
pub has_fixed_pairs : (filling : Filling) (lists a : Arrangement) → BeginsAt filling lists a → HasPairsOf (lists_by filling lists) a
has_fixed_pairs ChoosingS1 lists a h =
    record { s1 = inl refl; s2 = from_nothing a.s2; s1r = inl refl; s2r = from_nothing a.s2r }
has_fixed_pairs S2 lists a h = record { s1 = inr h.0; s2 = h.1; s1r = inl refl; s2r = from_nothing a.s2r }
has_fixed_pairs S2r lists a h = has_pairs (lists_by S2r lists) a (lacking lists a h)
