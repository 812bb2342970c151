-- What `boards` answers: the boards of a round as they stand in the report.
use Rattle.std.specs.Prelude.{ℕ, Bool, true, false, ◌==◌, ◌||◌, nat_lt, if◌then◌else◌, List, Result, Ok, Err, unwrap_or}
use Rattle.tables.specs.Prelude.{boards_of}
use Rattle.replies.specs.Prelude.{Answer, done, played_boards_text, refusal, round_not_reached}
use Rattle.requests.specs.declared.options.BoardsOptions.{BoardsOptions}
use Rattle.trf16_report.specs.Prelude.{Sheet, rounds_played}
use Rattle.trf16_report.specs.declared.fault.Fault.{Fault}
use Rattle.round_commands.specs.PairAnswers.{boards_text}

-- the boards of a round in start ranks (false), or with names, scores and results (true)
abbrev pub round_text : Bool → Sheet → ℕ → List ℕ
round_text false sheet round = boards_text (boards_of sheet round)
round_text true sheet round = played_boards_text sheet round (boards_of sheet round)

-- the boards of a round that was paired; any other is not reached
abbrev pub boards_at : Bool → Sheet → ℕ → Answer
boards_at names sheet round =
    if (round == 0) || nat_lt (rounds_played sheet) round then round_not_reached round else done (round_text names sheet round)

-- `boards`: the boards of the round that is asked for, or of the last one that was paired; or why a report is refused [own]
abbrev pub boards_answer : BoardsOptions → Result Sheet Fault → Answer
boards_answer options (Ok sheet) = boards_at options.names sheet (unwrap_or options.round (rounds_played sheet))
boards_answer options (Err fault) = refusal fault
