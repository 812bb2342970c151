-- What a page is made of, and how it is written.
use Rattle.std.specs.Prelude.{ℕ, Bool, if◌then◌else◌, List, [], ◌∷◌, ◌++◌, codes}
use Rattle.std.specs.List.{flat_map}
use Rattle.markup.specs.Escapes.{escaped}
use Rattle.markup.specs.Tags.{attribute_name, ends_line, is_void, opens_line, tag_name}
use Rattle.markup.specs.declared.tag.Tag.{Tag}
use Rattle.markup.specs.declared.tag.AttributeName.{AttributeName}
use Rattle.markup.specs.declared.writing.Attribute.{Attribute}

-- an attribute: its name, and its value before it is escaped [HTML]
pub record AttributeFacts : Type 0 where
  pub name : AttributeName
  pub value : List ℕ

-- what an attribute is, wherever its value lies in memory [with AttributeFacts]
abbrev pub attribute_of : Attribute → AttributeFacts
attribute_of a = record { name = a.name; value = a.value.now }

-- a part of a page: nothing, a text before it is escaped, an element with its tag, its attributes and its content, or one part with another
-- behind it [HTML]
pub data Node : Type 0 where
  Nothing : Node
  Text : List ℕ → Node
  Element : Tag → List AttributeFacts → Node → Node
  Beside : Node → Node → Node

-- an attribute as it is written, behind a blank [HTML]
abbrev pub attribute_text : AttributeFacts → List ℕ
attribute_text a = codes " " ++ (attribute_name a.name ++ (codes "=\"" ++ (escaped a.value ++ codes "\"")))

-- the end of a line, where one is wanted
abbrev pub line_end : Bool → List ℕ
line_end wanted = if wanted then codes "\n" else []

-- the start of an element [HTML]
unfoldable pub start_tag : Tag → List AttributeFacts → List ℕ
start_tag tag attributes = codes "<" ++ (tag_name tag ++ (flat_map attribute_text attributes ++ (codes ">" ++ line_end (opens_line tag))))

-- the end of an element [HTML]
unfoldable pub end_tag : Tag → List ℕ
end_tag tag = if is_void tag then [] else codes "</" ++ (tag_name tag ++ (codes ">" ++ line_end (ends_line tag)))

-- a part of a page as it is written: texts escaped, an element as its start, its content and its end [HTML]
abbrev pub node_text : Node → List ℕ
node_text Nothing = []
node_text (Text text) = escaped text
node_text (Element tag attributes content) = start_tag tag attributes ++ (node_text content ++ end_tag tag)
node_text (Beside node behind) = node_text node ++ node_text behind

-- what stands in front of a page: what kind of document it is [HTML]
unfoldable pub doctype : List ℕ
doctype = codes "<!doctype html>\n"

-- a page as a document [HTML]
abbrev pub document_text : Node → List ℕ
document_text page = doctype ++ node_text page
