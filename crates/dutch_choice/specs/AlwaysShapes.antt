-- The shape of a bracket in which all candidates can be chosen (C.04.3 C.4, C.5).
use Rattle.std.specs.Prelude.{◌≡◌, ℕ, false, List, Some}
use Rattle.dutch_arrangements.specs.declared.bracket.Shape.{Shape}
use Rattle.dutch_player.specs.Prelude.{Facts}
use Rattle.dutch_bracket.specs.Prelude.{Reached, is_penultimate, shape_of}

-- the shape of a bracket in which all candidates can be chosen, whatever seats are below it
pub record IsAlwaysShape (facts : Facts) (reached : Reached) (shape : Shape) : Type 0 where
  pub once : is_penultimate reached.kind ≡ false
  pub always : (lower : List ℕ) → shape_of facts reached lower ≡ Some shape
