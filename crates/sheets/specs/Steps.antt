-- What the inner functions put: the text of a part in front of what it holds, and behind it.
use Rattle.std.specs.Prelude.{ℕ, List, [], ◌∷◌, ◌++◌, codes}
use Rattle.markup.specs.Prelude.{end_tag, node_text, start_tag}
use Rattle.markup.specs.Nodes.Node.{Text}
use Rattle.markup.specs.declared.tag.Tag.TheVariants.{Subheading, Section, Division, Table, Caption, TableHead, TableBody, Row, HeaderCell}
use Rattle.markup.specs.declared.tag.AttributeName.TheVariants.{Id, Scope}
use Rattle.sheets.specs.Parts.{bare, with_one}

-- a row up to the cells behind its first
abbrev pub row_start : List ℕ → List ℕ
row_start first = start_tag Row [] ++ node_text (with_one HeaderCell Scope (codes "row") (Text first))

-- a table up to the heads of its columns
abbrev pub table_start : List ℕ → List ℕ
table_start caption =
    start_tag Division [] ++ (start_tag Table [] ++ (node_text (bare Caption (Text caption)) ++ (start_tag TableHead [] ++ start_tag Row [])))

-- what stands between the heads of the columns and the rows
abbrev pub rows_start : List ℕ
rows_start = end_tag Row ++ (end_tag TableHead ++ start_tag TableBody [])

-- what stands behind the rows
abbrev pub table_end : List ℕ
table_end = end_tag TableBody ++ (end_tag Table ++ end_tag Division)

-- a section up to what it holds
abbrev pub section_start : List ℕ → List ℕ → List ℕ
section_start name heading = start_tag Section (record { name = Id; value = name } ∷ []) ++ node_text (bare Subheading (Text heading))
