-- What `standings` answers: the lines of the players, with or without names.
use Rattle.std.specs.Prelude.{ℕ, Bool, true, false, if◌then◌else◌, List, Result, Ok, Err}
use Rattle.tables.specs.Prelude.{RowFacts, standings_of}
use Rattle.tables.specs.declared.fault.TieFault.{TieFault}
use Rattle.tables.specs.declared.key.Key.{Key}
use Rattle.trf16_report.specs.Prelude.{Sheet, rounds_played}
use Rattle.replies.specs.StandingsTexts.{rows_text}
use Rattle.replies.specs.Statuses.{Answer, done, tie_refusal}
use Rattle.replies.specs.Views.{unseen_answer}
use Rattle.replies.specs.declared.views.Unseen.{Unseen}
use Rattle.replies.specs.WallTexts.{named_rows_text}
use Rattle.requests.specs.declared.options.StandingsOptions.{StandingsOptions}

-- how many rounds are shown of each player: all that were paired, if the games are wanted [with standings_answer]
abbrev pub rounds_shown : StandingsOptions → Sheet → ℕ
rounds_shown options sheet = if options.games then rounds_played sheet else 0

-- the players in order, without names (false) or with them (true)
abbrev pub lines_text : Bool → Sheet → List Key → ℕ → List RowFacts → List ℕ
lines_text false sheet keys rounds rows = rows_text sheet keys rounds 1 rows
lines_text true sheet keys rounds rows = named_rows_text sheet keys rounds rows

-- the players in order, or why there are no standings
abbrev pub table_answer : StandingsOptions → Sheet → Result (List RowFacts) TieFault → Answer
table_answer options sheet (Ok rows) = done (lines_text options.names sheet options.keys (rounds_shown options sheet) rows)
table_answer options sheet (Err fault) = tie_refusal fault

-- `standings`: a line for each row, with its place, start rank, score and values, or the rows with names; or why there are none [own]
abbrev pub standings_answer : StandingsOptions → Result Sheet Unseen → Answer
standings_answer options (Ok sheet) = table_answer options sheet (standings_of sheet options.keys)
standings_answer options (Err why) = unseen_answer why
