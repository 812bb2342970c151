-- One value of the next bracket for all candidates of a shape (C.04.3 C.7). Only private functions' clauses cite this.
use Rattle.std.specs.Prelude.{◌≡◌}
use Rattle.dutch_arrangements.specs.Prelude.{Arrangement, IsIn}
use Rattle.dutch_bracket.specs.declared.shaped.ShapedBracket.{ShapedBracket}
use Rattle.dutch_bracket.specs.Prelude.{NextValue, candidates_in, next_in, quality_here}

-- below each candidate of a shape the next bracket can be the same [C.7; own]
abbrev pub IsNextOfAll : ShapedBracket → NextValue → Type 0
IsNextOfAll shaped value = (a : Arrangement) → IsIn a (candidates_in shaped) → next_in (quality_here shaped.context.now a) ≡ value
