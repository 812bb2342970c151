-- What `sheet` answers: the page of the tournament.
use Rattle.std.specs.Prelude.{Result, Ok, Err}
use Rattle.sheets.specs.Prelude.{document_of}
use Rattle.trf16_report.specs.Prelude.{Sheet}
use Rattle.replies.specs.Statuses.{Answer, done}
use Rattle.replies.specs.Views.{unseen_answer}
use Rattle.replies.specs.declared.views.Unseen.{Unseen}
use Rattle.requests.specs.declared.options.SheetOptions.{SheetOptions}

-- `sheet`: the page of the tournament, or why there is none [own]
abbrev pub sheet_answer : SheetOptions → Result Sheet Unseen → Answer
sheet_answer options (Ok sheet) = done (document_of sheet options.keys)
sheet_answer options (Err why) = unseen_answer why
