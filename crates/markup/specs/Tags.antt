-- The tags and the attributes that a page has.
use Rattle.std.specs.Prelude.{ℕ, Bool, true, false, List, codes}
use Rattle.markup.specs.declared.tag.Tag.{Tag}
use Rattle.markup.specs.declared.tag.Tag.TheVariants.{Html, Head, Meta, Title, Style, Body, Header, Heading, Subheading, Paragraph, Nav, List as Items, Item, Link, Main, Section, Division, Table, Caption, TableHead, TableBody, Row, HeaderCell, Cell, Small}
use Rattle.markup.specs.declared.tag.AttributeName.{AttributeName}
use Rattle.markup.specs.declared.tag.AttributeName.TheVariants.{Lang, Charset, Name, Content, Id, Href, Scope, Colspan}

-- the name of a tag [HTML]
abbrev pub tag_name : Tag → List ℕ
tag_name Html = codes "html"
tag_name Head = codes "head"
tag_name Meta = codes "meta"
tag_name Title = codes "title"
tag_name Style = codes "style"
tag_name Body = codes "body"
tag_name Header = codes "header"
tag_name Heading = codes "h1"
tag_name Subheading = codes "h2"
tag_name Paragraph = codes "p"
tag_name Nav = codes "nav"
tag_name Items = codes "ul"
tag_name Item = codes "li"
tag_name Link = codes "a"
tag_name Main = codes "main"
tag_name Section = codes "section"
tag_name Division = codes "div"
tag_name Table = codes "table"
tag_name Caption = codes "caption"
tag_name TableHead = codes "thead"
tag_name TableBody = codes "tbody"
tag_name Row = codes "tr"
tag_name HeaderCell = codes "th"
tag_name Cell = codes "td"
tag_name Small = codes "small"

-- the name of an attribute [HTML]
abbrev pub attribute_name : AttributeName → List ℕ
attribute_name Lang = codes "lang"
attribute_name Charset = codes "charset"
attribute_name Name = codes "name"
attribute_name Content = codes "content"
attribute_name Id = codes "id"
attribute_name Href = codes "href"
attribute_name Scope = codes "scope"
attribute_name Colspan = codes "colspan"

-- a tag that has no content and no end [HTML]
abbrev pub is_void : Tag → Bool
is_void Meta = true
is_void other = false

-- a tag behind whose start a new line begins, so that each part of its content stands on lines of its own [own]
abbrev pub opens_line : Tag → Bool
opens_line Html = true
opens_line Head = true
opens_line Meta = true
opens_line Body = true
opens_line Header = true
opens_line Nav = true
opens_line Items = true
opens_line Main = true
opens_line Section = true
opens_line Division = true
opens_line Table = true
opens_line TableHead = true
opens_line TableBody = true
opens_line other = false

-- a tag behind whose end a new line begins [own]
abbrev pub ends_line : Tag → Bool
ends_line Link = false
ends_line HeaderCell = false
ends_line Cell = false
ends_line Small = false
ends_line other = true
