-- What each command answers to the bytes of its input: a status, and the text that goes with it.
use Rattle.std.specs.Prelude.{◌≡◌, ℕ, List, Result}
use Rattle.trf16_report.specs.Prelude.{Sheet, verdict, verdict_unsummed}
use Rattle.trf16_report.specs.declared.fault.Fault.{Fault}
use Rattle.round_commands.specs.CandidateAnswers.{AnswersCandidates}
use Rattle.command_line.specs.ExplainAnswers.{AnswersExplain}
use Rattle.round_commands.specs.PairAnswers.{AnswersPair}
use Rattle.round_commands.specs.BoardsAnswers.{boards_answer}
use Rattle.replies.specs.Prelude.{check_answer, enter_answer, format_answer, format_verdict, seen_before, sheet_answer, standings_answer, Answer}
use Rattle.requests.specs.declared.words.Task.{Task}
use Rattle.requests.specs.declared.words.Request.{Request}
use Rattle.requests.specs.declared.words.Request.TheVariants.{Check, Format, Enter, Pair, Boards, Candidates, Explain, Standings, Sheet as SheetRequest}

-- this is an answer to a request over an input, what the pairing-allocated bye gives, and the report that it is, or over why it is refused;
-- where a request asks for a round it is answered on the report as it stood before that round, but `boards` on the whole report, which
-- `explain` looks at too [with Answers]
abbrev pub AnswersReport : Request → List ℕ → ℕ → Result Sheet Fault → Answer → Type 0
AnswersReport (Check options) input bye report answer = answer ≡ check_answer report options.notes input bye
AnswersReport (Format options) input bye report answer = answer ≡ format_answer options (seen_before options.round report)
AnswersReport (Enter options) input bye report answer = answer ≡ enter_answer options report
AnswersReport (Pair options) input bye report answer = AnswersPair options (seen_before options.round report) answer
AnswersReport (Boards options) input bye report answer = answer ≡ boards_answer options report
AnswersReport (Candidates options) input bye report answer = AnswersCandidates options (seen_before options.round report) answer
AnswersReport (Explain options) input bye report answer = AnswersExplain options report answer
AnswersReport (Standings options) input bye report answer = answer ≡ standings_answer options (seen_before options.round report)
AnswersReport (SheetRequest options) input bye report answer = answer ≡ sheet_answer options (seen_before options.round report)

-- the verdict that a request goes by: of `format` its own, of `enter` that without the points fields, of all others that of the report [with Answers]
abbrev pub verdict_for : Request → List ℕ → ℕ → Result Sheet Fault
verdict_for (Format options) input bye = format_verdict options.points input bye
verdict_for (Enter options) input bye = verdict_unsummed input bye
verdict_for request input bye = verdict input bye

-- what each command answers to the bytes of its input, where the pairing-allocated bye gives so many half points; a command with `--round`
-- for the report before that round, `boards` for the whole report [own]
abbrev pub Answers : Task → List ℕ → Answer → Type 0
Answers task input answer = AnswersReport task.request input task.bye (verdict_for task.request input task.bye) answer
