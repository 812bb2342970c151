-- Which candidates of a bracket can be chosen, as a test of each (C.04.3 C.4).
use Rattle.std.specs.Prelude.{◌≡◌, ℕ, true, List}
use Rattle.dutch_arrangements.specs.Prelude.{Fits}
use Rattle.dutch_arrangements.specs.declared.bracket.Shape.{Shape}
use Rattle.dutch_player.specs.Prelude.{Facts}
use Rattle.dutch_bracket.specs.Reached.{Reached, frame_of}
use Rattle.dutch_bracket.specs.Brackets.{eligible}
use Rattle.dutch_bracket.specs.Shapes.{has_member}
pub use Rattle.dutch_bracket.specs.Brackets.{can_be_chosen}

-- some shape that the bracket has room for has a candidate that can be chosen [C.4, C.5]
pub record HasCandidate (facts : Facts) (reached : Reached) (lower : List ℕ) : Type 0 where
  pub shape : Shape
  pub room : Fits (frame_of facts reached) shape
  pub candidate : has_member (eligible facts reached lower shape) ≡ true
