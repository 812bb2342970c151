-- What is said of a bracket above its lower seats with a shape that it has room for.
use Rattle.std.specs.Prelude.{List}
use Rattle.dutch_arrangements.specs.Prelude.{Arrangement, Beginning, Begins, IsIn}
use Rattle.dutch_bracket.specs.declared.shaped.ShapedBracket.{ShapedBracket}
use Rattle.dutch_bracket.specs.InContext.{candidates_here, eligible_here}

-- its candidates of the shape [C.1 to C.3]
abbrev pub candidates_in : ShapedBracket → List Arrangement
candidates_in shaped = candidates_here shaped.context.now shaped.shape

-- C.4: those of them that can be chosen [C.4]
abbrev pub eligible_in : ShapedBracket → List Arrangement
eligible_in shaped = eligible_here shaped.context.now shaped.shape

-- something is said of each of its candidates that have a beginning [own]
abbrev pub OfEachWithBeginning : ShapedBracket → Beginning → (Arrangement → Type 0) → Type 0
OfEachWithBeginning shaped beginning says = (a : Arrangement) → IsIn a (candidates_in shaped) → Begins beginning a → says a
