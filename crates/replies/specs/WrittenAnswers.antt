-- How an answer is written: to standard output or to standard error, and a note beside it.
use Rattle.std.specs.Prelude.{◌≡◌, ◌⊎◌, ℕ, Bool, true, false, List, [], ◌∷◌, Option}
use Rattle.replies.specs.Devices.{IsKept}
use Rattle.trf16_report.specs.Prelude.{Use, HasText, HasPart}
use Rattle.replies.specs.Statuses.{Answer, is_output}
use Rattle.replies.specs.Texts.{write_text}
use Rattle.replies.specs.declared.reply.Status.{Status}
use Rattle.replies.specs.declared.reply.Status.TheVariants.{Trouble}

-- the text was written, or as much of it as the sink took [with IsWritten]
abbrev pub HasTextOrPart : List ℕ → Use → Type 0
HasTextOrPart text sink = HasText text sink ⊎ HasPart text sink

-- the answer stands on standard output, and standard error is as it was [with IsWritten]
pub record IsPrinted (answer : Answer) (out err : Use) (status : Status) : Type 0 where
  pub ends : status ≡ answer.status
  pub printed : HasText answer.text out
  pub silent : IsKept err

-- as much of the answer stands on standard output as it took before it failed, which standard error tells unless it failed too [with
-- IsWritten]
pub record IsCut (answer : Answer) (out err : Use) (status : Status) : Type 0 where
  pub ends : status ≡ Trouble
  pub printed : HasPart answer.text out
  pub told : HasTextOrPart write_text err

-- the answer stands on standard error unless that failed, and standard output is as it was [with IsWritten]
pub record IsOnStandardError (answer : Answer) (out err : Use) (status : Status) : Type 0 where
  pub ends : status ≡ answer.status
  pub silent : IsKept out
  pub told : HasTextOrPart answer.text err

-- one text and then another were written, each whole or as much of it as the sink took [with IsWritten]
pub record HasInTurn (first second : List ℕ) (sink : Use) : Type 0 where
  pub between : Option (List ℕ)
  pub failures_between : ℕ
  pub begun : HasTextOrPart first (record {
    before = sink.before;
    after = between;
    failures_before = sink.failures_before;
    failures_after = failures_between;
  })
  pub ended : HasTextOrPart second (record {
    before = between;
    after = sink.after;
    failures_before = failures_between;
    failures_after = sink.failures_after;
  })

-- the answer stands on standard error unless that failed, and its note on standard output [with IsWritten]
pub record IsNoted (answer : Answer) (out err : Use) (status : Status) : Type 0 where
  pub ends : status ≡ answer.status
  pub noted : HasText answer.note out
  pub told : HasTextOrPart answer.text err

-- as much of the note stands on standard output as it took before it failed, which standard error tells behind the answer unless it failed
-- too [with IsWritten]
pub record IsNoteCut (answer : Answer) (out err : Use) (status : Status) : Type 0 where
  pub ends : status ≡ Trouble
  pub noted : HasPart answer.note out
  pub told : HasInTurn answer.text write_text err

-- how an answer is written to standard error, and its note, if it has one, to standard output [with IsWritten]
abbrev pub IsToldWith : List ℕ → Answer → Use → Use → Status → Type 0
IsToldWith [] answer out err status = IsOnStandardError answer out err status
IsToldWith (_ ∷ _) answer out err status = IsNoted answer out err status ⊎ IsNoteCut answer out err status

-- how an answer is written: to standard output (true), or to standard error (false) [with IsWritten]
abbrev pub IsWrittenTo : Bool → Answer → Use → Use → Status → Type 0
IsWrittenTo true answer out err status = IsPrinted answer out err status ⊎ IsCut answer out err status
IsWrittenTo false answer out err status = IsToldWith answer.note answer out err status

-- where an answer is written, by its status: to standard output, or else to standard error, and then its note, if it has one, to standard
-- output; if standard output fails, standard error says so [own]
abbrev pub IsWritten : Answer → Use → Use → Status → Type 0
IsWritten answer out err status = IsWrittenTo (is_output answer.status) answer out err status
