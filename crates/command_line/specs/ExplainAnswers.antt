-- What `explain` answers: the round, bracket by bracket, or what of it one player is told.
use Rattle.std.specs.Prelude.{◌≡◌, ℕ, IfSome, Bool, true, false, List, [], ◌++◌, Option, Some, None, Result, Ok, Err, codes}
use Rattle.dutch_rounds.specs.Prelude.{Barrier, Blocks, AreStages}
use Rattle.dutch_rounds.specs.declared.round.AllStages.{AllStages}
use Rattle.dutch_rounds.specs.declared.round.AllStages.TheVariants.{Paired, NoPairing, Undecided}
use Rattle.dutch_rounds.specs.Stage.{Stage}
use Rattle.dutch_player.specs.Prelude.{Facts, facts_of, seat_with}
use Rattle.dutch_player.specs.declared.fault.FieldFault.{FieldFault}
use Rattle.trf16_report.specs.Prelude.{Sheet}
use Rattle.trf16_report.specs.declared.fault.Fault.{Fault}
use Rattle.stage_lines.specs.BarrierTexts.{reason_text}
use Rattle.stage_lines.specs.ExplainTexts.{stages_text}
use Rattle.command_line.specs.InsteadAnswers.{AnswersInstead, PairedRound}
use Rattle.command_line.specs.InsteadAnswers.{undecided_in}
use Rattle.command_line.specs.OtherBoards.{boards_paired, has_other_boards}
use Rattle.player_lines.specs.PlayerTexts.{absent_text, player_text}
use Rattle.round_lines.specs.RoundTexts.{round_text}
use Rattle.round_lines.specs.Tellings.{TellingFacts, in_wording}
use Rattle.replies.specs.Prelude.{question_fault, Answer, behind, done, field_refusal, no_pairing, plain, question_refusal, refusal, seen_before, unseen_answer}
use Rattle.replies.specs.declared.views.Unseen.{Unseen}
use Rattle.requests.specs.declared.options.ExplainOptions.{ExplainOptions}
use Rattle.requests.specs.declared.options.Question.{Question}
use Rattle.requests.specs.declared.options.Wording.{Wording}
use Rattle.replies.specs.declared.question.QuestionFault.{QuestionFault}

-- ---- a round that is paired

-- that the round has other boards in the report, if it has
abbrev pub other_boards_text : Wording → Bool → List ℕ
other_boards_text wording false = []
other_boards_text wording true =
    in_wording wording (codes "report has other boards\n")
    (codes "In the report this round has other boards: it was paired by hand, or what it stands on was corrected.\n")

-- the line of a round, and behind it that the report has other boards, if it has [own]
abbrev pub first_text : PairedRound → List ℕ
first_text round = round_text round.telling round.bye ++ other_boards_text round.telling.wording round.other_boards

-- what is told of a present player: their line, and the brackets in which they stand
abbrev pub present_text : PairedRound → ℕ → List ℕ
present_text round seat = player_text round.telling seat ++ stages_text round.telling (Some seat) round.stages

-- what is told of a player, by their start rank and their seat; without a seat they are absent
abbrev pub about_text : PairedRound → ℕ → Option ℕ → List ℕ
about_text round player None = absent_text round.telling player
about_text round player (Some seat) = present_text round seat

-- the round, and what is told of a player
abbrev pub front_text : PairedRound → ℕ → List ℕ
front_text round player = first_text round ++ about_text round player (seat_with round.telling.facts player)

-- behind the round and what is told of a player it is told why they do not meet another one, or do not have the bye [with AnswersExplain]
pub record IsToldBehind (round : PairedRound) (steps player number : ℕ) (answer : Answer) : Type 0 where
  pub line : Answer
  pub is : AnswersInstead round player number steps line
  pub tells : answer ≡ behind (front_text round player) line

-- what is answered to a question on a player, and on who is named instead, if one is [with AnswersExplain]
abbrev pub AnswersQuestion : PairedRound → ℕ → ℕ → Option ℕ → Answer → Type 0
AnswersQuestion round steps player None answer = answer ≡ done (front_text round player)
AnswersQuestion round steps player (Some number) answer = IsToldBehind round steps player number answer

-- what is told of a round that is paired: all its brackets, or what is asked of a player [with AnswersExplain]
abbrev pub TellsPaired : Option Question → ℕ → PairedRound → Answer → Type 0
TellsPaired None steps round answer = answer ≡ done (first_text round ++ stages_text round.telling None round.stages)
TellsPaired (Some question) steps round answer = AnswersQuestion round steps question.player question.instead answer

-- ---- no pairing

-- the line of a player, by their start rank and their seat; without a seat they are absent
abbrev pub line_text : TellingFacts → ℕ → Option ℕ → List ℕ
line_text telling player None = absent_text telling player
line_text telling player (Some seat) = player_text telling seat

-- the line of the player who is asked about, if one is
abbrev pub asked_text : TellingFacts → Option Question → List ℕ
asked_text telling None = []
asked_text telling (Some question) = line_text telling question.player (seat_with telling.facts question.player)

-- that there is no pairing, in the line that other commands answer, or in a sentence
abbrev pub no_pairing_text : Wording → List ℕ
no_pairing_text wording = in_wording wording no_pairing.text (codes "There is no pairing of the present players.\n")

-- that there is no pairing, why, and the line of the player who is asked about
abbrev pub no_pairing_with : TellingFacts → Option Question → List ℕ → Answer
no_pairing_with telling question why =
    plain no_pairing.status (no_pairing_text telling.wording ++ (why ++ asked_text telling question))

-- no pairing, and why: a barrier that blocks the round, if one was found [A.9; own]
pub record TellsWhy (telling : TellingFacts) (question : Option Question) (answer : Answer) : Type 0 where
  pub found : Option Barrier
  pub blocks : IfSome found (Blocks telling.facts)
  pub tells : answer ≡ no_pairing_with telling question (reason_text telling found)

-- ---- a round

-- a round that is paired, and whether it has other boards in a report [with AnswersExplain]
abbrev pub paired_round : Sheet → Option ℕ → TellingFacts → List Stage → List ℕ → PairedRound
paired_round whole number telling stages bye = record {
  telling = telling;
  stages = stages;
  bye = bye;
  other_boards = has_other_boards whole number (boards_paired telling.facts stages bye);
}

-- what is told of a round: as it is paired, why it has no pairing, or that it stopped [with AnswersExplain]
abbrev pub TellsRound : ExplainOptions → Sheet → TellingFacts → AllStages → Answer → Type 0
TellsRound options whole telling (Paired stages bye) answer =
    TellsPaired options.question options.steps (paired_round whole options.round telling stages.items bye.items) answer
TellsRound options whole telling NoPairing answer = TellsWhy telling options.question answer
TellsRound options whole telling (Undecided number used) answer = answer ≡ undecided_in telling.wording number used

-- a field is paired, and its round is told [with AnswersExplain]
pub record IsExplained (options : ExplainOptions) (whole : Sheet) (telling : TellingFacts) (answer : Answer) : Type 0 where
  pub stages : AllStages
  pub are : AreStages telling.facts options.steps stages
  pub tells : TellsRound options whole telling stages answer

-- a field is paired, and its round is told, where nothing is wrong with the question; else that is told [with AnswersExplain]
abbrev pub ExplainsAsked : ExplainOptions → Sheet → TellingFacts → Option QuestionFault → Answer → Type 0
ExplainsAsked options whole telling None answer = IsExplained options whole telling answer
ExplainsAsked options whole telling (Some fault) answer = answer ≡ question_refusal fault

-- what is answered to a field, or why the round cannot be paired [with AnswersExplain]
abbrev pub ExplainsField : ExplainOptions → Sheet → Sheet → Result Facts FieldFault → Answer → Type 0
ExplainsField options whole sheet (Ok facts) answer =
    ExplainsAsked options whole (record { sheet = sheet; facts = facts; wording = options.wording }) (question_fault sheet options.question) answer
ExplainsField options whole sheet (Err fault) answer = answer ≡ field_refusal fault

-- what is answered to a report as it stood before the round that is asked for, or why there is none [with AnswersExplain]
abbrev pub ExplainsSeen : ExplainOptions → Sheet → Result Sheet Unseen → Answer → Type 0
ExplainsSeen options whole (Ok sheet) answer = ExplainsField options whole sheet (facts_of sheet options.rounds options.initial) answer
ExplainsSeen options whole (Err why) answer = answer ≡ unseen_answer why

-- `explain`: the round as it is paired, or of it what is asked of one player; or why there is none; what is wrong with the question is told
-- before anything is paired [own]
abbrev pub AnswersExplain : ExplainOptions → Result Sheet Fault → Answer → Type 0
AnswersExplain options (Ok whole) answer = ExplainsSeen options whole (seen_before options.round (Ok whole)) answer
AnswersExplain options (Err fault) answer = answer ≡ refusal fault
