-- Tables: lines of labels that stand in columns.
use Rattle.std.specs.Prelude.{ℕ, zero, suc, ◌+◌, ◌-◌, Bool, max, List, [], ◌∷◌, ◌++◌, length, slice_index_or, slice_get, codes}
use Rattle.std.specs.List.{flat_map}
use Rattle.std.specs.Option.{option_map_or}
use Rattle.trf16_report.specs.Prelude.{columns, blanks, left_in}
use Rattle.replies.specs.declared.table.Alignment.{Alignment}
use Rattle.replies.specs.declared.table.Alignment.TheVariants.{Left, Right}

-- a label: a text, and the side of its column at which it stands [with table_text]
pub record LabelFacts : Type 0 where
  pub side : Alignment
  pub text : List ℕ

-- a text at the left of its column
abbrev pub left : List ℕ → LabelFacts
left text = record { side = Left; text = text }

-- a text at the right of its column
abbrev pub right : List ℕ → LabelFacts
right text = record { side = Right; text = text }

-- how wide a text is: its characters where the report is UTF-8, else its bytes
abbrev pub width : Bool → List ℕ → ℕ
width utf8 text = length (columns utf8 text)

-- how wide a line is in a column, which counts from 0; nothing where the line ends before it
abbrev pub width_in : Bool → ℕ → List LabelFacts → ℕ
width_in utf8 column line = option_map_or (λ label. width utf8 label.text) (slice_get line column) 0

-- how wide a column is: as wide as the widest of its labels
abbrev pub widest : Bool → ℕ → List (List LabelFacts) → ℕ
widest utf8 column [] = 0
widest utf8 column (line ∷ rest) = max (width_in utf8 column line) (widest utf8 column rest)

-- how wide the first columns are, so many of them
abbrev pub widths : Bool → ℕ → List (List LabelFacts) → List ℕ
widths utf8 zero lines = []
widths utf8 (suc count) lines = widths utf8 count lines ++ widest utf8 count lines ∷ []

-- a text with blanks up to a width
abbrev pub padded_by : Bool → ℕ → Alignment → List ℕ → List ℕ
padded_by utf8 wide Left text = left_in utf8 wide text
padded_by utf8 wide Right text = blanks (wide - width utf8 text) ++ text

-- a label with blanks up to a width
abbrev pub padded_label : Bool → ℕ → LabelFacts → List ℕ
padded_label utf8 wide label = padded_by utf8 wide label.side label.text

-- what parts a label from those behind it: two blanks, and behind the last one the line ends
abbrev pub gap : List LabelFacts → List ℕ
gap [] = codes "\n"
gap (label ∷ rest) = codes "  "

-- the labels of a line from a column on, each as wide as its column
abbrev pub labels_text : Bool → List ℕ → ℕ → List LabelFacts → List ℕ
labels_text utf8 wide column [] = []
labels_text utf8 wide column (label ∷ rest) = padded_label utf8 (slice_index_or wide column 0) label ++ (gap rest ++ labels_text utf8 wide (column + 1) rest)

-- a table of so many columns: a line for each row of labels, each at the left or at the right of its column, which is as wide as the widest
-- of its labels, with two blanks between columns [own]
abbrev pub table_text : Bool → ℕ → List (List LabelFacts) → List ℕ
table_text utf8 count lines = flat_map (labels_text utf8 (widths utf8 count lines) 0) lines
