-- The items so far do not differ, so those to come decide.
use Rattle.std.proofs.Common.{◌≡◌, drop}
use Rattle.dutch_bracket.specs.Prelude.{first_difference, first_that_differs, quality_in}
use Rattle.dutch_bracket.proofs.quality.Quality.first_difference.Given as goal

abbrev pub invariant-loop-item : goal.invariant-loop-item
invariant-loop-item l = first_that_differs (drop l.item-index l.item-items) (quality_in l.self) (quality_in l.other) ≡ first_difference (quality_in l.self) (quality_in l.other)
