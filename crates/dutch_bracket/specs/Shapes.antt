-- The shape of a bracket (C.04.3 C.5, B.1): as many pairs as there is an arrangement for, and in them as many moved-down players.
use Rattle.std.specs.Prelude.{ℕ, zero, suc, ◌+◌, ◌-◌, ◌*◌, ◌/◌, ◌≡◌, ◌<◌, ◌⊎◌, Bool, true, false, not, ◌&&◌, nat_lt, if◌then◌else◌, List, [], ◌∷◌, map, filter, flat_map, length, Option, Some, None, MatchOption}
use Rattle.dutch_arrangements.specs.declared.bracket.Shape.{Shape}
use Rattle.dutch_arrangements.specs.Prelude.{Frame, Arrangement, down, remainder_pairs, Candidate}

-- the numbers from one down to 0
abbrev pub down_from : ℕ → List ℕ
down_from zero = 0 ∷ []
down_from (suc n) = suc n ∷ down_from n

-- a bracket has room for a shape, as `Fits` says [B.1]
abbrev pub fits : Frame → Shape → Bool
fits frame shape =
    not (nat_lt shape.pairs shape.mdps)
    && (not (nat_lt frame.mdps shape.mdps) && not (nat_lt (length frame.scores - frame.mdps) (shape.mdps + 2 * remainder_pairs shape)))

-- the shapes with a number of pairs and at most so many moved-down players, those with more of them first
abbrev pub shapes_upto : ℕ → ℕ → List Shape
shapes_upto pairs most = map (λ mdps. record { pairs = pairs; mdps = mdps }) (down_from most)

-- the shapes with a number of pairs [own]
abbrev pub shapes_with : ℕ → List Shape
shapes_with pairs = shapes_upto pairs pairs

-- the shapes that a bracket has room for, those with more pairs first, and among these those with more moved-down players [B.1, C.5]
abbrev pub shapes : Frame → List Shape
shapes frame = filter (fits frame) (flat_map shapes_with (down_from (length frame.scores / 2)))

-- some arrangement is there [with greatest_shape]
abbrev pub has_member : List Arrangement → Bool
has_member [] = false
has_member (a ∷ rest) = true

-- an arrangement, with those whom it leaves over, is the first of some of a bracket [own]
pub record IsFirst (some : List Arrangement) (frame : Frame) (candidate : Candidate) : Type 0 where
  pub others : List Arrangement
  pub first : some ≡ candidate.lists ∷ others
  pub down : candidate.down ≡ down frame candidate.lists

-- the first shape for which some arrangement is there [own]
abbrev pub first_with : (Shape → List Arrangement) → List Shape → Option Shape
first_with eligible [] = None
first_with eligible (shape ∷ rest) = if has_member (eligible shape) then Some shape else first_with eligible rest

-- the greatest number of pairs for which some arrangement is there, and for it the greatest number of moved-down players [C.5, B.1]
abbrev pub greatest_shape : (Shape → List Arrangement) → Frame → Option Shape
greatest_shape eligible frame = first_with eligible (shapes frame)

-- what is found is the greatest shape, and its first arrangement is drawn; nothing is found only if no shape has one [own]
abbrev pub IsFound : (Shape → List Arrangement) → Frame → Option Shape → Candidate → Type 0
IsFound eligible frame found drawn =
    MatchOption found (greatest_shape eligible frame ≡ None)
    (λ shape. (greatest_shape eligible frame ≡ Some shape) × IsFirst (eligible shape) frame drawn)

-- a shape has more pairs than another one, or as many and more moved-down players in them [C.5, B.1]
abbrev pub IsGreater : Shape → Shape → Type 0
IsGreater t s = (s.pairs < t.pairs) ⊎ ((s.pairs ≡ t.pairs) × (s.mdps < t.mdps))
