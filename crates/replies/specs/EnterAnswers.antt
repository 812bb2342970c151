-- What `enter` answers.
use Rattle.std.specs.Prelude.{ℕ, List, ◌++◌, codes, Result, Ok, Err}
use Rattle.std.specs.Fmt.{decimal}
use Rattle.trf16_report.specs.Prelude.{Sheet, written}
use Rattle.trf16_report.specs.declared.fault.Fault.{Fault}
use Rattle.entries.specs.Prelude.{entered}
use Rattle.entries.specs.declared.entry.EntryOptions.{EntryOptions}
use Rattle.entries.specs.declared.fault.EntryFault.{EntryFault}
use Rattle.entries.specs.declared.fault.EntryFault.TheVariants.{NotReached, NotKnown, NamedTwice, HasGame, NoGame, NoColour, HasCell, Refused, OutOfMemory}
use Rattle.requests.specs.declared.options.EnterOptions.{EnterOptions}
use Rattle.replies.specs.RefusalTexts.{fault_text, memory_text}
use Rattle.replies.specs.Statuses.{Answer, done, out_of_memory, plain, refusal}
use Rattle.replies.specs.Texts.{round_not_reached_text}
use Rattle.replies.specs.declared.reply.Status.TheVariants.{BadWords}

-- what is wrong with a player whom an entry names
abbrev pub player_words : ℕ → List ℕ → List ℕ
player_words player what = codes "words: player " ++ (decimal player ++ what)

-- what is wrong with a player in a round
abbrev pub round_words : ℕ → List ℕ → ℕ → List ℕ
round_words player what round = codes "words: player " ++ (decimal player ++ (what ++ (decimal round ++ codes "\n")))

-- why entries are refused [with enter_answer]
abbrev pub entry_text : EntryFault → List ℕ
entry_text (NotReached round) = round_not_reached_text round
entry_text (NotKnown player) = player_words player (codes " is not known\n")
entry_text (NamedTwice player) = player_words player (codes " is named twice\n")
entry_text (HasGame player round) = round_words player (codes " has a game in round ") round
entry_text (NoGame player round) = round_words player (codes " has no game in round ") round
entry_text (NoColour player round) = round_words player (codes " has no colour in round ") round
entry_text (HasCell player round) =
    codes "words: player " ++ (decimal player ++ (codes " has a cell in round " ++ (decimal round ++ codes ", which --correct replaces\n")))
entry_text (Refused fault) = fault_text fault
entry_text OutOfMemory = memory_text

-- entries are refused: for what one of them says, or since the report that comes of all of them is refused [with enter_answer]
abbrev pub entry_refusal : EntryFault → Answer
entry_refusal (Refused fault) = refusal fault
entry_refusal OutOfMemory = out_of_memory
entry_refusal fault = plain BadWords (entry_text fault)

-- the report that comes of some entries in canonical columns, however long, or why they are refused
abbrev pub entered_answer : Result Sheet EntryFault → Answer
entered_answer (Ok sheet) = done (written sheet)
entered_answer (Err fault) = entry_refusal fault

-- how entries are put into a report, by the options of `enter`
abbrev pub entry_options : EnterOptions → EntryOptions
entry_options options = record { round = options.round; correct = options.correct }

-- `enter`: the report with the entries in canonical columns, or why there is none: the report is refused, or the entries are [own]
abbrev pub enter_answer : EnterOptions → Result Sheet Fault → Answer
enter_answer options (Err fault) = refusal fault
enter_answer options (Ok sheet) = entered_answer (entered (entry_options options) options.entries sheet)
