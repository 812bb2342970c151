-- A page as pieces: starts and ends of elements, and texts between them.
use Rattle.std.specs.Prelude.{◌≡◌, ℕ, List, [], ◌∷◌, ◌++◌}
use Rattle.markup.specs.Prelude.{AttributeFacts, Node, end_tag, escaped, start_tag}
use Rattle.markup.specs.Nodes.Node.{Nothing, Text, Element, Beside}
use Rattle.markup.specs.declared.tag.Tag.{Tag}

-- a piece of a page: the start of an element with its attributes, its end, or a text before it is escaped [with pieces]
pub data Piece : Type 0 where
  Start : Tag → List AttributeFacts → Piece
  End : Tag → Piece
  Words : List ℕ → Piece

-- a piece as it is written; the end of a void element is nothing [with pieces]
abbrev pub piece_text : Piece → List ℕ
piece_text (Start tag attributes) = start_tag tag attributes
piece_text (End tag) = end_tag tag
piece_text (Words text) = escaped text

-- the pieces of a part of a page, in their order [own]
abbrev pub pieces : Node → List Piece
pieces Nothing = []
pieces (Text text) = Words text ∷ []
pieces (Element tag attributes content) = Start tag attributes ∷ (pieces content ++ (End tag ∷ []))
pieces (Beside node behind) = pieces node ++ pieces behind

-- of some pieces, before which some elements are opened, each end closes the one that was opened last and is not closed yet; and behind
-- them all are closed [own]
abbrev pub AreBalanced : List Tag → List Piece → Type 0
AreBalanced opened [] = opened ≡ []
AreBalanced opened (Start tag attributes ∷ rest) = AreBalanced (tag ∷ opened) rest
AreBalanced opened (Words text ∷ rest) = AreBalanced opened rest
AreBalanced [] (End tag ∷ rest) = ⊥
AreBalanced (last ∷ opened) (End tag ∷ rest) = (last ≡ tag) × AreBalanced opened rest
