-- The parts that the page is put together from: cells, rows, tables, sections and links.
use Rattle.std.specs.Prelude.{ℕ, zero, suc, ◌+◌, List, [], ◌∷◌, ◌++◌, codes}
use Rattle.std.specs.Fmt.{decimal}
use Rattle.markup.specs.Prelude.{Node}
use Rattle.markup.specs.Nodes.Node.{Nothing, Text, Element, Beside}
use Rattle.markup.specs.declared.tag.Tag.{Tag}
use Rattle.markup.specs.declared.tag.Tag.TheVariants.{Subheading, Paragraph, Item, Link, Section, Division, Table, Caption, TableHead, TableBody, Row, HeaderCell, Small, Cell as DataCell}
use Rattle.markup.specs.declared.tag.AttributeName.{AttributeName}
use Rattle.markup.specs.declared.tag.AttributeName.TheVariants.{Id, Href, Scope}
use Rattle.sheets.specs.Persons.{PersonFacts}
use Rattle.sheets.specs.Texts.{phrase}

-- an element without attributes
abbrev pub bare : Tag → Node → Node
bare tag content = Element tag [] content

-- an element with one attribute
abbrev pub with_one : Tag → AttributeName → List ℕ → Node → Node
with_one tag name value content = Element tag (record { name = name; value = value } ∷ []) content

-- what each of some things gives, in their order
abbrev pub each : {A : Type 0} → (A → Node) → List A → Node
each f [] = Nothing
each f (x ∷ rest) = Beside (f x) (each f rest)

-- what each of some things gives with its number, of which the first is n
abbrev pub each_from : {A : Type 0} → (ℕ → A → Node) → ℕ → List A → Node
each_from f n [] = Nothing
each_from f n (x ∷ rest) = Beside (f n x) (each_from f (n + 1) rest)

-- what the numbers from 1 to n give, the first one first
abbrev pub each_up : (ℕ → Node) → ℕ → Node
each_up f zero = Nothing
each_up f (suc n) = Beside (each_up f n) (f (n + 1))

-- what the numbers from n to 1 give, the last one first
abbrev pub each_down : (ℕ → Node) → ℕ → Node
each_down f zero = Nothing
each_down f (suc n) = Beside (f (n + 1)) (each_down f n)

-- a cell of a table
abbrev pub cell : List ℕ → Node
cell text = bare DataCell (Text text)

-- the head of a column
abbrev pub column_head : List ℕ → Node
column_head label = with_one HeaderCell Scope (codes "col") (Text label)

-- a row: a text that heads it, and its other cells
abbrev pub row : List ℕ → Node → Node
row first cells = bare Row (Beside (with_one HeaderCell Scope (codes "row") (Text first)) cells)

-- a table with a caption, the heads of its columns, and its rows; around it what scrolls by itself if the table is too wide
unfoldable pub table : List ℕ → Node → Node → Node
table caption heads rows =
    bare Division
    (bare Table
    (Beside (bare Caption (Text caption)) (Beside (bare TableHead (bare Row heads)) (bare TableBody rows))))

-- a section of the page by its name, with a heading
unfoldable pub section : List ℕ → List ℕ → Node → Node
section name heading content = with_one Section Id name (Beside (bare Subheading (Text heading)) content)

-- a cell with title and name of a player, and in small letters federation and rating
unfoldable pub name_cell : PersonFacts → Node
name_cell person =
    bare DataCell
    (Beside (Text (phrase person.title person.name ++ codes " ")) (bare Small (Text (phrase person.federation person.rating))))

-- the name of the section of a round
abbrev pub round_name : ℕ → List ℕ
round_name round = codes "round-" ++ decimal round

-- the words for a round
abbrev pub round_words : ℕ → List ℕ
round_words round = codes "Round " ++ decimal round

-- a text that leads to a section of the page by its name
abbrev pub link : List ℕ → List ℕ → Node
link name text = with_one Link Href (codes "#" ++ name) (Text text)

-- a paragraph with a label and a text; nothing where there is no text
unfoldable pub fact : List ℕ → List ℕ → Node
fact label [] = Nothing
fact label (first ∷ rest) = bare Paragraph (Text (label ++ (codes ": " ++ (first ∷ rest))))

-- an item of a list that leads to a section of the page
unfoldable pub item : List ℕ → List ℕ → Node
item name text = bare Item (link name text)
