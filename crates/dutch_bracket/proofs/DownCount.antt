-- How many an arrangement leaves over.
use Rattle.std.proofs.Common.{◌≡◌, ◌+◌, ◌*◌, ◌≤◌, length, arith}
use Rattle.dutch_arrangements.specs.declared.bracket.Shape.{Shape}
use Rattle.dutch_arrangements.specs.Prelude.{IsIn, Frame, Arrangement, arrangements, down}
use Rattle.dutch_bracket.proofs.ArrangementParts.{parts_of}
use Rattle.dutch_bracket.proofs.Everybody.{how_many}

pub down_count : (frame : Frame) (shape : Shape) (a : Arrangement) → frame.mdps ≤ length frame.scores → shape.mdps ≤ shape.pairs
    → IsIn a (arrangements frame shape) → length (down frame a) + 2 * shape.pairs ≡ length frame.scores
down_count frame shape a inside within m =
    let parts = parts_of frame shape a inside m in
    omega (arith, how_many frame shape a inside m, parts.s1_count, parts.s2_count, parts.s1r_count, parts.s2r_count, within)
