-- What a call says: the status, and the texts that the program would write to its two outputs.
use Rattle.std.specs.Prelude.{◌≡◌, ◌⊎◌, ⊤, ℕ, All, IsUtf8, List, [], Result, Ok, Err, Some, codes}
use Rattle.trf16_report.specs.Prelude.{Use, lines}
use Rattle.replies.specs.Prelude.{Reading, out_of_memory}
use Rattle.command_line.specs.Run.{IsRun}
use Rattle.replies.specs.declared.reply.Status.{Status}
use Rattle.replies.specs.declared.reply.Status.TheVariants.{BadWords}
use Rattle.arbiter_c.specs.declared.answer.Answered.{Answered}
use Rattle.arbiter_c.specs.declared.words.Unsaid.{Unsaid}
use Rattle.arbiter_c.specs.declared.words.Unsaid.TheVariants.{NoText, NoMemory}

-- a status, the text of standard output, and that of standard error [with IsSaid]
pub record Said : Type 0 where
  pub status : Status
  pub output : List ℕ
  pub message : List ℕ

-- a status, and a text on standard error alone [with IsSaid]
abbrev pub told : Status → List ℕ → Said
told status text = record { status = status; output = []; message = text }

-- words that are not text are refused [with IsSaid]
abbrev pub not_text : Said
not_text = told BadWords (codes "words: not UTF-8\n")

-- memory was refused [with IsSaid]
abbrev pub no_memory : Said
no_memory = told out_of_memory.status out_of_memory.text

-- a report in memory: so many calls leave so much of it, and none fails [with IsSaid]
abbrev pub report_in_memory : List ℕ → List ℕ → ℕ → Reading
report_in_memory report rest calls = record {
  device = record { before = Some report; after = Some rest; failures_before = 0; failures_after = 0 };
  calls_before = 0;
  calls_after = calls;
}

-- an output in memory: it had nothing, now it has a text, and no call of it failed [with IsSaid]
abbrev pub output_in_memory : List ℕ → Use
output_in_memory text = record { before = Some []; after = Some text; failures_before = 0; failures_after = 0 }

-- a run of the program over the words, the report and two outputs in memory says this [with IsSaid]
pub record IsSaidByRun (words : List (List ℕ)) (report : List ℕ) (said : Said) : Type 0 where
  pub rest : List ℕ
  pub calls : ℕ
  pub runs : IsRun words (report_in_memory report rest calls) (output_in_memory said.output) (output_in_memory said.message) said.status

-- each word is UTF-8 [with IsSaid]
abbrev pub AreText : List (List ℕ) → Type 0
AreText words = All IsUtf8 words

-- the words are UTF-8, and a run over them says this [with IsSaid]
pub record IsSaidToText (words : List (List ℕ)) (report : List ℕ) (said : Said) : Type 0 where
  pub text : AreText words
  pub run : IsSaidByRun words report said

-- a word is not UTF-8, and that is said [with IsSaid]
pub record HasNoText (words : List (List ℕ)) (said : Said) : Type 0 where
  pub fault : ¬ (AreText words)
  pub says : said ≡ not_text

-- what is said to the words, which stand one on each line of a text, and to the report: what a run says, that the words are not UTF-8, or
-- that memory was refused [own]
abbrev pub IsSaid : List ℕ → List ℕ → Said → Type 0
IsSaid text report said = IsSaidToText (lines text) report said ⊎ (HasNoText (lines text) said ⊎ (said ≡ no_memory))

-- what is said where a run ended, or where there was none
abbrev pub said_of : Result Answered Unsaid → Said
said_of (Ok answered) = record { status = answered.status; output = answered.output.items; message = answered.message.items }
said_of (Err NoText) = not_text
said_of (Err NoMemory) = no_memory

-- the words of a text were read, and each is UTF-8
pub record AreRead (text : List ℕ) (words : List (List ℕ)) : Type 0 where
  pub are : words ≡ lines text
  pub sound : AreText (lines text)

-- the words of a text, one on each line; or one is not UTF-8, or memory was refused
abbrev pub ReadsWords : {T : Type 0} → (T → List (List ℕ)) → List ℕ → Result T Unsaid → Type 0
ReadsWords words text (Ok read) = AreRead text (words read)
ReadsWords words text (Err NoText) = ¬ (AreText (lines text))
ReadsWords words text (Err NoMemory) = ⊤
