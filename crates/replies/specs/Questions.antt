-- What is wrong with the players whom a question names.
use Rattle.std.specs.Prelude.{ℕ, not, ◌==◌, if◌then◌else◌, Option, Some, None}
use Rattle.trf16_report.specs.Prelude.{Sheet, known}
use Rattle.requests.specs.declared.options.Question.{Question}
use Rattle.replies.specs.declared.question.QuestionFault.{QuestionFault}
use Rattle.replies.specs.declared.question.QuestionFault.TheVariants.{NotKnown, NamedTwice}

-- what is wrong with a player who might have been met; 0 is the bye
abbrev pub instead_fault : Sheet → ℕ → Option ℕ → Option QuestionFault
instead_fault sheet player None = None
instead_fault sheet player (Some instead) =
    if instead == 0 then None
    else (if not (known sheet instead) then Some (NotKnown instead)
    else (if instead == player then Some (NamedTwice player) else None))

-- what is wrong with the players whom a question names: the first who is not one of the report, or one who is named twice [own]
abbrev pub question_fault : Sheet → Option Question → Option QuestionFault
question_fault sheet None = None
question_fault sheet (Some question) =
    if known sheet question.player then instead_fault sheet question.player question.instead else Some (NotKnown question.player)
