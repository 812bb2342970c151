-- A status with the text that goes with it, and those that do not depend on the command.
use Rattle.std.specs.Prelude.{ℕ, Bool, true, false, List, [], ◌++◌, codes}
use Rattle.dutch_player.specs.declared.fault.FieldFault.{FieldFault}
use Rattle.dutch_player.specs.declared.fault.FieldFault.TheVariants.{OutOfMemory as FieldMemory}
use Rattle.tables.specs.declared.fault.TieFault.{TieFault}
use Rattle.tables.specs.declared.fault.TieFault.TheVariants.{OutOfMemory as TieMemory}
use Rattle.trf16_report.specs.declared.fault.Fault.{Fault}
use Rattle.trf16_report.specs.declared.fault.Fault.TheVariants.{OutOfMemory}
use Rattle.replies.specs.RefusalTexts.{fault_text, field_text, memory_text, tie_text, unread_text}
use Rattle.replies.specs.Texts.{not_of_bracket_text, not_reached_text, question_text, read_text, round_not_reached_text, word_text}
use Rattle.common_texts.specs.Texts.{undecided_text}
use Rattle.requests.specs.declared.options.WordFault.{WordFault}
use Rattle.replies.specs.declared.question.QuestionFault.{QuestionFault}
use Rattle.replies.specs.declared.reply.Status.{Status}
use Rattle.replies.specs.declared.reply.Status.TheVariants.{Done, Refused, BadWords, NoPairing, Undecided, Trouble}

-- a status and the text that goes with it; and a note, which stands on standard output beside a text on standard error [own]
pub record Answer : Type 0 where
  pub status : Status
  pub text : List ℕ
  pub note : List ℕ

-- a text without a note [with Answer]
abbrev pub plain : Status → List ℕ → Answer
plain status text = record { status = status; text = text; note = [] }

-- the number with which the program ends: 0 done, 1 report refused, 2 words refused, 3 no pairing, 4 undecided, 5 a device or memory [own]
abbrev pub code_of : Status → ℕ
code_of Done = 0
code_of Refused = 1
code_of BadWords = 2
code_of NoPairing = 3
code_of Undecided = 4
code_of Trouble = 5

-- whether the text goes to standard output, as with 0, 3 and 4; else it goes to standard error [with code_of]
abbrev pub is_output : Status → Bool
is_output Done = true
is_output Refused = false
is_output BadWords = false
is_output NoPairing = true
is_output Undecided = true
is_output Trouble = false

-- a command was carried out, and this is its text [with Answer]
abbrev pub done : List ℕ → Answer
done text = plain Done text

-- the status of an answer, and its text behind another one [with Answer]
abbrev pub behind : List ℕ → Answer → Answer
behind text answer = plain answer.status (text ++ answer.text)

-- memory was refused
abbrev pub out_of_memory : Answer
out_of_memory = plain Trouble memory_text

-- a call of the source failed
abbrev pub read_fault : Answer
read_fault = plain Trouble read_text

-- a report is refused [own]
abbrev pub refusal : Fault → Answer
refusal OutOfMemory = out_of_memory
refusal fault = plain Refused (fault_text fault)

-- a report cannot be renumbered, since a line names players in a way that is not read [with refusal]
abbrev pub unread_refusal : ℕ → Answer
unread_refusal line = plain Refused (unread_text line)

-- the next round cannot be paired from a report [with refusal]
abbrev pub field_refusal : FieldFault → Answer
field_refusal FieldMemory = out_of_memory
field_refusal fault = plain Refused (field_text fault)

-- the players whom a question names are refused [with refusal]
abbrev pub question_refusal : QuestionFault → Answer
question_refusal fault = plain BadWords (question_text fault)

-- words that clap lets pass are refused for what an option says [with refusal]
abbrev pub words_refusal : WordFault → Answer
words_refusal fault = plain BadWords (word_text fault)

-- no pairing meets the absolute criteria [with refusal]
abbrev pub no_pairing : Answer
no_pairing = plain NoPairing (codes "no pairing\n")

-- the steps of a bracket reached the limit before it was decided [with refusal]
abbrev pub bracket_undecided : ℕ → ℕ → Answer
bracket_undecided number used = plain Undecided (undecided_text number used)

-- the round ends before the bracket that is asked for
abbrev pub not_reached : ℕ → Answer
not_reached number = plain BadWords (not_reached_text number)

-- the report does not reach the round that is asked for [with refusal]
abbrev pub round_not_reached : ℕ → Answer
round_not_reached round = plain BadWords (round_not_reached_text round)

-- the cursor is not one of the bracket that is asked for
abbrev pub not_of_bracket : ℕ → Answer
not_of_bracket number = plain BadWords (not_of_bracket_text number)

-- a report has no standings [with refusal]
abbrev pub tie_refusal : TieFault → Answer
tie_refusal TieMemory = out_of_memory
tie_refusal fault = plain Refused (tie_text fault)
