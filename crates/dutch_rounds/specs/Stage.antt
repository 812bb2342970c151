-- A bracket that a round reaches, as it is settled.
use Rattle.std.specs.Prelude.{Bool}
use Rattle.dutch_arrangements.specs.declared.bracket.Shape.{Shape}
use Rattle.dutch_arrangements.specs.Prelude.{Candidate}
use Rattle.dutch_bracket.specs.Prelude.{Reached}
use Rattle.dutch_bracket.specs.declared.quality.Quality.{Quality}

-- a bracket with its shape, what is chosen in it and the quality of that, and whether it is paired again [with IsStage]
pub record Stage : Type 0 where
  pub reached : Reached
  pub shape : Shape
  pub candidate : Candidate
  pub quality : Quality
  pub again : Bool
