-- A text that is read as a cursor is an arrangement of the bracket and shape.
use Rattle.std.proofs.Common.{◌≡◌, ℕ, List, Ok}
use Rattle.dutch_arrangements.specs.Prelude.{Arrangement, Frame, IsBracket, IsIn, arrangements, cursor_of}
use Rattle.dutch_arrangements.specs.declared.bracket.Shape.{Shape}
use Rattle.dutch_listing.proofs.CursorReads.{read-is}

pub cursor_is_in : (frame : Frame) (shape : Shape) (bytes : List ℕ) (a : Arrangement) → IsBracket frame.scores frame.mdps
    → cursor_of frame shape bytes ≡ Ok a → IsIn a (arrangements frame shape)
cursor_is_in frame shape bytes a is e = (read-is frame shape bytes a is e).0
