-- Pieces one behind the other, however they are joined.
use Rattle.std.proofs.Common.{◌≡◌, List, [], ◌∷◌, ◌++◌, refl, ap, append-nil, flat_map}
use Rattle.round_lines.specs.Pieces.{piece_text, pieces_text}
use Rattle.round_lines.specs.Tellings.{TellingFacts}
use Rattle.round_lines.specs.declared.pieces.Piece.{Piece}

pub together : (telling : TellingFacts) (pieces : List Piece) → flat_map (piece_text telling) pieces ≡ pieces_text telling pieces
together telling [] = refl
together telling (piece ∷ []) = append-nil (piece_text telling piece)
together telling (piece ∷ other ∷ more) = ap (λ text. piece_text telling piece ++ text) (together telling (other ∷ more))
