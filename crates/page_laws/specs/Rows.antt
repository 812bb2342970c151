-- The rows that stand in a part of a page.
use Rattle.std.specs.Prelude.{ℕ, ◌+◌, Bool, true, false, if◌then◌else◌, List, [], ◌∷◌, ◌++◌}
use Rattle.markup.specs.Prelude.{Node}
use Rattle.markup.specs.Nodes.Node.{Nothing, Text, Element, Beside}
use Rattle.markup.specs.declared.tag.Tag.{Tag}
use Rattle.markup.specs.declared.tag.Tag.TheVariants.{Row}

-- a tag is that of a row
abbrev pub is_row : Tag → Bool
is_row Row = true
is_row other = false

-- the rows that stand in a part of a page, in their order [own]
abbrev pub rows_in : Node → List Node
rows_in Nothing = []
rows_in (Text text) = []
rows_in (Element tag attributes content) = if is_row tag then Element tag attributes content ∷ [] else rows_in content
rows_in (Beside node behind) = rows_in node ++ rows_in behind

-- what each of some things gives with its number, of which the first is n [with rows_in]
abbrev pub numbered : {A : Type 0} → (ℕ → A → Node) → ℕ → List A → List Node
numbered f n [] = []
numbered f n (x ∷ rest) = f n x ∷ numbered f (n + 1) rest
