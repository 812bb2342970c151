-- The pieces of a page, part by part.
use Rattle.std.proofs.Common.{◌≡◌, ◌∙◌, List, [], ◌∷◌, ◌++◌, refl, sym, ap, subst, append_assoc}
use Rattle.std.proofs.lemmas.List.{append-nil}
use Rattle.std.specs.List.{flat_map}
use Rattle.markup.specs.Prelude.{Node, end_tag, escaped, node_text, start_tag}
use Rattle.markup.specs.Nodes.Node.{Nothing, Text, Element, Beside}
use Rattle.markup.specs.declared.tag.Tag.{Tag}
use Rattle.page_laws.specs.Pieces.{AreBalanced, Piece, piece_text, pieces}
use Rattle.page_laws.specs.Pieces.Piece.{End}

-- the text of some pieces and of others behind them
text_beside : (some others : List Piece) → flat_map piece_text (some ++ others) ≡ flat_map piece_text some ++ flat_map piece_text others
text_beside [] others = refl
text_beside (piece ∷ some) others =
    ap (λ text. piece_text piece ++ text) (text_beside some others)
    ∙ sym (append_assoc (piece_text piece) (flat_map piece_text some) (flat_map piece_text others))

pub written_by_pieces : (node : Node) → flat_map piece_text (pieces node) ≡ node_text node
written_by_pieces Nothing = refl
written_by_pieces (Text text) = append-nil (escaped text)
written_by_pieces (Element tag attributes content) =
    ap (λ text. start_tag tag attributes ++ text)
    (text_beside (pieces content) (End tag ∷ []) ∙ ap (λ text. text ++ (end_tag tag ++ [])) (written_by_pieces content)
    ∙ ap (λ text. node_text content ++ text) (append-nil (end_tag tag)))
written_by_pieces (Beside node behind) =
    text_beside (pieces node) (pieces behind) ∙ ap (λ text. text ++ flat_map piece_text (pieces behind)) (written_by_pieces node)
    ∙ ap (λ text. node_text node ++ text) (written_by_pieces behind)

-- the pieces of a part in front of others that are balanced
balanced_before : (node : Node) (opened : List Tag) (behind : List Piece) → AreBalanced opened behind → AreBalanced opened (pieces node ++ behind)
balanced_before Nothing opened behind are = are
balanced_before (Text text) opened behind are = are
balanced_before (Element tag attributes content) opened behind are =
    subst (AreBalanced (tag ∷ opened)) (sym (append_assoc (pieces content) (End tag ∷ []) behind))
    (balanced_before content (tag ∷ opened) (End tag ∷ behind) (refl, are))
balanced_before (Beside node other) opened behind are =
    subst (AreBalanced opened) (sym (append_assoc (pieces node) (pieces other) behind))
    (balanced_before node opened (pieces other ++ behind) (balanced_before other opened behind are))

pub balanced : (node : Node) → AreBalanced [] (pieces node)
balanced node = subst (AreBalanced []) (append-nil (pieces node)) (balanced_before node [] [] refl)
