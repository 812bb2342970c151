-- The page of a tournament.
use Rattle.std.specs.Prelude.{ℕ, zero, suc, List, [], ◌∷◌, ◌++◌, length, Option, Some, None, codes}
use Rattle.std.specs.Fmt.{decimal}
use Rattle.markup.specs.Prelude.{Node, document_text}
use Rattle.markup.specs.Nodes.Node.{Nothing, Text, Element, Beside}
use Rattle.markup.specs.declared.tag.Tag.TheVariants.{Html, Head, Meta, Title, Style, Body, Header, Heading, Nav, List as Items, Main}
use Rattle.markup.specs.declared.tag.AttributeName.TheVariants.{Lang, Charset, Name, Content}
use Rattle.tables.specs.declared.key.Key.{Key}
use Rattle.trf16_report.specs.Prelude.{Sheet, rounds_played}
use Rattle.sheets.specs.HeadLines.{first_line, head_text}
use Rattle.sheets.specs.NameLists.{names_section}
use Rattle.sheets.specs.Parts.{bare, each_down, fact, item, round_name, round_words, with_one}
use Rattle.sheets.specs.PlayerLists.{players_section}
use Rattle.sheets.specs.Rounds.{round_section}
use Rattle.sheets.specs.StandingsParts.{standings_section}
use Rattle.sheets.specs.Texts.{joined_by}
use Rattle.sheets.specs.declared.style.TheConstants.{STYLE}

-- a title, or a word of its own where there is none
abbrev pub title_or : List ℕ → List ℕ
title_or [] = codes "Tournament"
title_or (first ∷ rest) = first ∷ rest

-- the title of the event [TRF16, line 012]
abbrev pub event_title : Sheet → List ℕ
event_title sheet = title_or (head_text sheet (codes "012"))

-- how many rounds were paired, and of how many where the report says it
abbrev pub rounds_text : ℕ → Option ℕ → List ℕ
rounds_text rounds None = decimal rounds
rounds_text rounds (Some total) = decimal rounds ++ (codes " of " ++ decimal total)

-- that a page is as wide as the screen [HTML]
unfoldable pub viewport : Node
viewport =
    Element Meta (record { name = Name; value = codes "viewport" } ∷ record { name = Content; value = codes "width=device-width, initial-scale=1" } ∷ [])
    Nothing

-- the style sheet
unfoldable pub style : Node
style = bare Style (Text STYLE.now)

-- the head of the document: what a browser goes by
unfoldable pub document_head : List ℕ → Node
document_head title = bare Head (Beside (with_one Meta Charset (codes "utf-8") Nothing) (Beside viewport (Beside (bare Title (Text title)) style)))

-- the dates of the event: from one to another, or one alone [TRF16, lines 042 and 052]
abbrev pub event_dates : Sheet → List ℕ
event_dates sheet = joined_by (codes " to ") (head_text sheet (codes "042")) (head_text sheet (codes "052"))

-- place, dates and chief arbiter, where the report says them [TRF16, lines 022, 042, 052 and 102]
unfoldable pub said_facts : Sheet → Node
said_facts sheet =
    Beside (fact (codes "Place") (head_text sheet (codes "022")))
    (Beside (fact (codes "Dates") (event_dates sheet)) (fact (codes "Chief arbiter") (head_text sheet (codes "102"))))

-- how many rounds were paired, and how many players there are
unfoldable pub counted_facts : Sheet → Node
counted_facts sheet =
    Beside (fact (codes "Rounds paired") (rounds_text (rounds_played sheet) sheet.total)) (fact (codes "Players") (decimal (length sheet.players)))

-- what the page says of the event: title, place, dates, chief arbiter, rounds and players [with said_facts]
unfoldable pub page_header : List ℕ → Sheet → Node
page_header title sheet = bare Header (Beside (bare Heading (Text title)) (Beside (said_facts sheet) (counted_facts sheet)))

-- a link to a round
unfoldable pub round_item : ℕ → Node
round_item round = item (round_name round) (round_words round)

-- a link to the names, if a round was paired
abbrev pub names_item : ℕ → Node
names_item zero = Nothing
names_item (suc before) = item (codes "names") (codes "By name")

-- the links to the sections behind the rounds, given how many were paired
unfoldable pub last_items : ℕ → Node
last_items rounds = Beside (names_item rounds) (Beside (item (codes "standings") (codes "Standings")) (item (codes "players") (codes "Players")))

-- the links to the sections, given how many rounds were paired
unfoldable pub links : ℕ → Node
links rounds = bare Nav (bare Items (Beside (each_down round_item rounds) (last_items rounds)))

-- who sits where in the last round, if a round was paired
abbrev pub last_names : Sheet → ℕ → Node
last_names sheet zero = Nothing
last_names sheet (suc before) = names_section sheet (suc before)

-- the rounds that were paired, the last one first
unfoldable pub round_sections : Sheet → Node
round_sections sheet = each_down (round_section sheet (first_line sheet (codes "132"))) (rounds_played sheet)

-- the sections of the page: each round that was paired, the last one first, the last one by name, the standings, and the players [own]
unfoldable pub sections : Sheet → List Key → Node
sections sheet keys =
    bare Main (Beside (round_sections sheet) (Beside (last_names sheet (rounds_played sheet)) (Beside (standings_section sheet keys) (players_section sheet))))

-- the body of the page
unfoldable pub page_body : List ℕ → Sheet → List Key → Node
page_body title sheet keys = bare Body (Beside (page_header title sheet) (Beside (links (rounds_played sheet)) (sections sheet keys)))

-- the page of a tournament [own]
unfoldable pub page_of : Sheet → List Key → Node
page_of sheet keys = with_one Html Lang (codes "en") (Beside (document_head (event_title sheet)) (page_body (event_title sheet) sheet keys))

-- the document of a tournament: what kind of document it is, and the page [HTML]
unfoldable pub document_of : Sheet → List Key → List ℕ
document_of sheet keys = document_text (page_of sheet keys)
