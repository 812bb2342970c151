-- A run: what is answered to the words and to the bytes of the source, and that it is written.
use Rattle.std.specs.Prelude.{◌≡◌, ◌⊎◌, ◌+◌, ◌≤◌, ℕ, List, [], Option, None, Some}
use Rattle.replies.specs.Prelude.{Reading, IsUnread, Answer, out_of_memory, plain, read_fault, most_read, word_text, IsWritten}
use Rattle.trf16_report.specs.Prelude.{Use, HasFailed, HasNotFailed}
use Rattle.command_line.specs.Commands.{Answers}
use Rattle.requests.specs.Prelude.{AsksFor, AsksForHelp, AsksWrongly, IsMistaken, meant_words}
use Rattle.requests.specs.declared.options.WordFault.{WordFault}
use Rattle.replies.specs.declared.reply.Status.{Status}
use Rattle.replies.specs.declared.reply.Status.TheVariants.{Done, BadWords}
use Rattle.requests.specs.declared.words.Task.{Task}

-- ---- what is answered

-- the bytes that a source had; of one that does not tell them, some bytes [with IsRun]
abbrev pub IsInput : Option (List ℕ) → List ℕ → Type 0
IsInput None input = Unit {0}
IsInput (Some bytes) input = input ≡ bytes

-- a task is answered over the bytes of the source [with IsRun]
pub record IsAnswered (task : Task) (source : Reading) (answer : Answer) : Type 0 where
  pub input : List ℕ
  pub read : IsInput source.device.before input
  pub sound : HasNotFailed source.device
  pub answers : Answers task input answer

-- a call of the source failed, and that is answered [with IsRun]
pub record HasReadFault (source : Reading) (answer : Answer) : Type 0 where
  pub failed : HasFailed source.device
  pub tells : answer ≡ read_fault

-- memory was refused, and that is answered; no call of the source failed [with IsRun]
pub record IsOutOfMemory (source : Reading) (answer : Answer) : Type 0 where
  pub sound : HasNotFailed source.device
  pub tells : answer ≡ out_of_memory

-- what is answered to a task: the command's answer over the bytes of the source, a read fault, or want of memory [with IsRun]
abbrev pub IsReplyTo : Task → Reading → Answer → Type 0
IsReplyTo task source answer = IsAnswered task source answer ⊎ (HasReadFault source answer ⊎ IsOutOfMemory source answer)

-- the words make a task, which is answered [with IsRun]
pub record IsCarriedOut (words : List (List ℕ)) (source : Reading) (answer : Answer) : Type 0 where
  pub task : Task
  pub asked : AsksFor words task
  pub replies : IsReplyTo task source answer

-- the words ask for help or the version, and nothing is read; the text is clap's [with IsRun]
pub record IsHelped (words : List (List ℕ)) (source : Reading) (answer : Answer) : Type 0 where
  pub asked : AsksForHelp words
  pub unread : IsUnread source
  pub status : answer.status ≡ Done
  pub plain : answer.note ≡ []

-- the words are refused, and nothing is read; the text is clap's [with IsRun]
pub record IsCorrected (words : List (List ℕ)) (source : Reading) (answer : Answer) : Type 0 where
  pub mistaken : IsMistaken words
  pub unread : IsUnread source
  pub status : answer.status ≡ BadWords
  pub plain : answer.note ≡ []

-- the options are refused with a text of the program's own, and nothing is read [with IsRun]
pub record HasWordFault (words : List (List ℕ)) (source : Reading) (answer : Answer) : Type 0 where
  pub fault : WordFault
  pub asked : AsksWrongly words fault
  pub unread : IsUnread source
  pub tells : answer ≡ plain BadWords (word_text fault)

-- what is answered to the words and to what the source gives: the command's answer, help, clap's complaint, a text of the program's own, a
-- read fault, or want of memory [with IsRun]
abbrev pub IsAnswer : List (List ℕ) → Reading → Answer → Type 0
IsAnswer words source answer = IsCarriedOut words source answer ⊎ (IsHelped words source answer ⊎ (IsCorrected words source answer
    ⊎ (HasWordFault words source answer ⊎ IsOutOfMemory source answer)))

-- ---- a run

-- a run answers the words and the bytes, writes that answer, and calls the source at most 1,048,577 times [own]
pub record IsRun (words : List (List ℕ)) (source : Reading) (out err : Use) (status : Status) : Type 0 where
  pub answer : Answer
  pub answers : IsAnswer (meant_words words) source answer
  pub written : IsWritten answer out err status
  pub bounded : source.calls_after ≤ source.calls_before + most_read
