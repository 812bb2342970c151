-- What `pair` answers: the boards of the next round, or the report with that round.
use Rattle.std.specs.Prelude.{◌≡◌, ℕ, List, ◌++◌, length, Result, Ok, Err, codes}
use Rattle.std.specs.List.{flat_map}
use Rattle.std.specs.Fmt.{decimal}
use Rattle.dutch_rounds.specs.Prelude.{IsOutcome}
use Rattle.dutch_rounds.specs.declared.round.Outcome.{Outcome}
use Rattle.dutch_rounds.specs.declared.round.Outcome.TheVariants.{Paired, NoPairing, Undecided}
use Rattle.dutch_player.specs.Prelude.{Facts, facts_of}
use Rattle.dutch_player.specs.declared.fault.FieldFault.{FieldFault}
use Rattle.trf16_report.specs.Prelude.{with_round, Sheet, written}
use Rattle.replies.specs.Prelude.{Answer, done, field_refusal, no_pairing, bracket_undecided, named_boards_text, unseen_answer}
use Rattle.replies.specs.declared.views.Unseen.{Unseen}
use Rattle.requests.specs.declared.options.PairOptions.{PairOptions}
use Rattle.requests.specs.declared.options.Shown.{Shown}
use Rattle.requests.specs.declared.options.Shown.TheVariants.{Boards, Names, Report}

-- a board: the start ranks of white and black; of a player who has the bye, and 0
unfoldable pub board_text : ℕ × ℕ → List ℕ
board_text board = decimal board.0 ++ (codes " " ++ (decimal board.1 ++ codes "\n"))

-- how many boards there are, and each of them
abbrev pub boards_text : List (ℕ × ℕ) → List ℕ
boards_text boards = decimal (length boards) ++ (codes "\n" ++ flat_map board_text boards)

-- the report whose next round some boards are, however long [with AnswersPair]
abbrev pub TellsReport : Sheet → List (ℕ × ℕ) → Answer → Type 0
TellsReport sheet boards answer = answer ≡ done (written (with_round boards sheet))

-- the boards, the boards with names and scores, or the report with them [with AnswersPair]
abbrev pub TellsBoards : Shown → Sheet → List (ℕ × ℕ) → Answer → Type 0
TellsBoards Boards sheet boards answer = answer ≡ done (boards_text boards)
TellsBoards Names sheet boards answer = answer ≡ done (named_boards_text sheet boards)
TellsBoards Report sheet boards answer = TellsReport sheet boards answer

-- what is answered to the outcome of pairing [with AnswersPair]
abbrev pub TellsOutcome : PairOptions → Sheet → Outcome → Answer → Type 0
TellsOutcome options sheet (Paired all) answer = TellsBoards options.shown sheet all.items answer
TellsOutcome options sheet NoPairing answer = answer ≡ no_pairing
TellsOutcome options sheet (Undecided number used) answer = answer ≡ bracket_undecided number used

-- a field is paired, and its outcome is answered [with AnswersPair]
pub record IsPaired (options : PairOptions) (sheet : Sheet) (facts : Facts) (answer : Answer) : Type 0 where
  pub outcome : Outcome
  pub is : IsOutcome facts options.steps outcome
  pub tells : TellsOutcome options sheet outcome answer

-- what is answered to a field, or why the round cannot be paired [with AnswersPair]
abbrev pub PairsField : PairOptions → Sheet → Result Facts FieldFault → Answer → Type 0
PairsField options sheet (Ok facts) answer = IsPaired options sheet facts answer
PairsField options sheet (Err fault) answer = answer ≡ field_refusal fault

-- `pair`: how many boards and a line for each, or the boards with names, or the report with them; or why there are none [own]
abbrev pub AnswersPair : PairOptions → Result Sheet Unseen → Answer → Type 0
AnswersPair options (Ok sheet) answer = PairsField options sheet (facts_of sheet options.rounds options.initial) answer
AnswersPair options (Err why) answer = answer ≡ unseen_answer why
