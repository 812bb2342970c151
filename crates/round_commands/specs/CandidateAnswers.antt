-- What `candidates` answers: a bracket, its shape, and the candidates of that shape in article D's order, from a cursor on or all.
use Rattle.std.specs.Prelude.{◌≡◌, ℕ, List, [], ◌++◌, Option, Some, None, Result, Ok, Err}
use Rattle.dutch_arrangements.specs.Prelude.{Arrangement, candidates, rest, cursor_of}
use Rattle.dutch_arrangements.specs.declared.bracket.Shape.{Shape}
use Rattle.dutch_arrangements.specs.declared.cursor.CursorFault.{CursorFault}
use Rattle.dutch_rounds.specs.Prelude.{IsBracketAt}
use Rattle.dutch_bracket.specs.Prelude.{Reached, frame_of, numbers_meet, number_may_be_left}
use Rattle.dutch_rounds.specs.declared.round.BracketAt.{BracketAt}
use Rattle.dutch_rounds.specs.declared.round.BracketAt.TheVariants.{Bracket, NotReached, NoPairing as NoPairingAt, Undecided as UndecidedAt}
use Rattle.dutch_player.specs.Prelude.{Facts, facts_of}
use Rattle.dutch_player.specs.declared.fault.FieldFault.{FieldFault}
use Rattle.trf16_report.specs.Prelude.{Sheet}
use Rattle.replies.specs.Prelude.{Answer, field_refusal, no_pairing, not_of_bracket, not_reached, bracket_undecided, unseen_answer}
use Rattle.replies.specs.declared.views.Unseen.{Unseen}
use Rattle.round_lines.specs.CandidateTexts.{bracket_text, line_text}
use Rattle.round_lines.specs.Listings.{IsListing, ending_text}
use Rattle.round_lines.specs.declared.listing.Ending.{Ending}
use Rattle.round_lines.specs.declared.listing.Ending.TheVariants.{AtEnd, AtCount, Stopped}
use Rattle.replies.specs.declared.reply.Status.{Status}
use Rattle.replies.specs.declared.reply.Status.TheVariants.{Done, Undecided as UndecidedStatus}
use Rattle.requests.specs.declared.options.CandidatesOptions.{CandidatesOptions}

-- the candidates behind a cursor
abbrev pub behind_cursor : Facts → Reached → Shape → Result Arrangement CursorFault → Result (List Arrangement) CursorFault
behind_cursor facts reached shape (Ok lists) = Ok (rest (numbers_meet facts reached) (number_may_be_left facts reached) (frame_of facts reached) shape lists)
behind_cursor facts reached shape (Err fault) = Err fault

-- the candidates that a listing has to give: all of the bracket and shape, or those behind the cursor that a text is
abbrev pub coming_of : Facts → Reached → Shape → Option (List ℕ) → Result (List Arrangement) CursorFault
coming_of facts reached shape None = Ok (candidates (numbers_meet facts reached) (number_may_be_left facts reached) (frame_of facts reached) shape)
coming_of facts reached shape (Some text) = behind_cursor facts reached shape (cursor_of (frame_of facts reached) shape text)

-- the status of a listing [with AnswersCandidates]
abbrev pub status_of : Ending → Status
status_of AtEnd = Done
status_of AtCount = Done
status_of (Stopped used) = UndecidedStatus

-- a bracket of this number and its candidates to come are listed [with AnswersCandidates]
pub record IsListOfBracket (options : CandidatesOptions) (facts : Facts) (reached : Reached) (shape : Shape) (coming : List Arrangement) (answer : Answer) : Type 0 where
  pub ending : Ending
  pub lines : List ℕ
  pub listing : IsListing (line_text facts reached) coming options.count options.steps ending lines
  pub status : answer.status ≡ status_of ending
  pub text : answer.text ≡ bracket_text options.bracket reached.kind shape ++ (lines ++ ending_text options.bracket ending)
  pub plain : answer.note ≡ []

-- a bracket and its candidates to come are listed, where the cursor is one of the bracket; else that is told [with AnswersCandidates]
abbrev pub Lists : CandidatesOptions → Facts → Reached → Shape → Result (List Arrangement) CursorFault → Answer → Type 0
Lists options facts reached shape (Ok coming) answer = IsListOfBracket options facts reached shape coming answer
Lists options facts reached shape (Err fault) answer = answer ≡ not_of_bracket options.bracket

-- what is answered to the bracket that is found [with AnswersCandidates]
abbrev pub AnswersFound : CandidatesOptions → Facts → BracketAt → Answer → Type 0
AnswersFound options facts (Bracket reached shape) answer = Lists options facts reached shape (coming_of facts reached shape options.from) answer
AnswersFound options facts NotReached answer = answer ≡ not_reached options.bracket
AnswersFound options facts NoPairingAt answer = answer ≡ no_pairing
AnswersFound options facts (UndecidedAt number used) answer = answer ≡ bracket_undecided number used

-- the bracket that is asked for is found, or not, and that is answered [with AnswersCandidates]
pub record IsAnswerToField (options : CandidatesOptions) (facts : Facts) (answer : Answer) : Type 0 where
  pub found : BracketAt
  pub is : IsBracketAt facts options.steps options.bracket found
  pub tells : AnswersFound options facts found answer

-- what is answered to a field, or why the round cannot be paired [with AnswersCandidates]
abbrev pub InField : CandidatesOptions → Result Facts FieldFault → Answer → Type 0
InField options (Ok facts) answer = IsAnswerToField options facts answer
InField options (Err fault) answer = answer ≡ field_refusal fault

-- `candidates`: the bracket of a number, and then its candidates, or those behind the cursor; or why there are none [own]
abbrev pub AnswersCandidates : CandidatesOptions → Result Sheet Unseen → Answer → Type 0
AnswersCandidates options (Ok sheet) answer = InField options (facts_of sheet options.rounds options.initial) answer
AnswersCandidates options (Err why) answer = answer ≡ unseen_answer why
