-- What floors by counts say of the candidates behind a beginning (C.04.3 B.3, C.6 to C.19).
use Rattle.std.specs.Prelude.{◌≡◌, ℕ, List, false}
use Rattle.dutch_arrangements.specs.declared.bracket.Shape.{Shape}
use Rattle.dutch_arrangements.specs.Prelude.{Arrangement, Beginning, Begins, IsIn}
use Rattle.dutch_player.specs.Prelude.{Facts}
use Rattle.dutch_bracket.specs.declared.shaped.ShapedBracket.{ShapedBracket}
use Rattle.dutch_bracket.specs.Prelude.{HasNoBetter, IsOf, NextValue, Quality, Reached, candidates_of, is_better, quality_of}
use Rattle.dutch_floors.specs.Outlooks.{Outlook}

-- what floors stand on: a bracket of a field above lower seats, the shape of its arrangements, and what is known of the next bracket [own]
pub record Basis : Type 0 where
  pub facts : Facts
  pub reached : Reached
  pub lower : List ℕ
  pub shape : Shape
  pub outlook : Outlook

-- that of a bracket above its lower seats with a shape
abbrev pub basis_for : ShapedBracket → Outlook → Basis
basis_for shaped outlook =
    record {
      facts = shaped.context.now.facts;
      reached = shaped.context.now.reached;
      lower = shaped.context.now.lower;
      shape = shaped.shape;
      outlook = outlook;
    }

-- floors are those of a bracket above lower seats, and of a shape [with Basis]
pub record IsBasis (facts : Facts) (reached : Reached) (lower : List ℕ) (shape : Shape) (basis : Basis) : Type 0 where
  pub facts_are : basis.facts ≡ facts
  pub stand_is : basis.reached ≡ reached
  pub lower_are : basis.lower ≡ lower
  pub shape_is : basis.shape ≡ shape
  pub of : IsOf facts reached

-- floors are those of a bracket above its lower seats, with a shape [with Basis]
abbrev pub IsBasisFor : ShapedBracket → Basis → Type 0
IsBasisFor shaped = IsBasis shaped.context.now.facts shaped.context.now.reached shaped.context.now.lower shaped.shape

module _ (basis : Basis) (b : Beginning) where
  -- something is said of each candidate with a beginning [with Basis]
  abbrev pub OfEachBehind : (Arrangement → Type 0) → Type 0
  OfEachBehind says = (a : Arrangement) → IsIn a (candidates_of basis.facts basis.reached basis.shape) → Begins b a → says a

  -- no candidate with a beginning is better than a quality [C.6 to C.19; own]
  abbrev pub NoneBeats : Quality → Type 0
  NoneBeats floor = OfEachBehind (λ a. is_better (quality_of basis.facts basis.reached basis.lower a) floor ≡ false)

  -- no candidate with a beginning has a better value of the next bracket than a given one [C.7; own]
  abbrev pub NoneHasBetterNext : NextValue → Type 0
  NoneHasBetterNext other = OfEachBehind (λ a. HasNoBetter (quality_of basis.facts basis.reached basis.lower a) other)
