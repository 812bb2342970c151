-- The pieces so far and those to come make all of them.
use Rattle.std.proofs.Common.{◌≡◌, ◌++◌, drop, flat_map}
use Rattle.round_lines.specs.Pieces.{piece_text}
use Rattle.round_lines.proofs.pieces.put_each.Given as goal

abbrev pub invariant-loop-piece : goal.invariant-loop-piece
invariant-loop-piece l =
    l.text ++ flat_map (piece_text l.telling) (drop l.piece-index l.pieces) ≡ l.initial.text ++ flat_map (piece_text l.telling) l.pieces
