-- The input of a run: the bytes that the source gives, read no further than tells that they are too many.
use Rattle.std.specs.Prelude.{◌<◌, ◌≤◌, ◌+◌, ℕ, List, Result, Ok, Err, length}
use Rattle.std.specs.Io.KnownBytes.{Consumes, IsAtEnd}
use Rattle.trf16_report.specs.Prelude.{Use, HasNotFailed, HasFailed}
use Rattle.replies.specs.declared.input.InputFault.{InputFault}
use Rattle.replies.specs.declared.input.InputFault.TheVariants.{Read, Memory}
use Rattle.trf16_report.specs.declared.limits.TheConstants.{MOST_BYTES}

-- how many bytes are read at most: one more than a report may have [with ReadsInput]
abbrev pub most_read : ℕ
most_read = MOST_BYTES + 1

-- the source gave these bytes: all that it had, or as many as are read at most [with ReadsInput]
pub record IsRead (source : Use) (input : List ℕ) : Type 0 where
  pub given : Consumes source.before source.after input
  pub fits : length input ≤ most_read
  pub whole : length input < most_read → IsAtEnd source.after
  pub sound : HasNotFailed source

-- the input was read, or a call of the source failed, or memory was refused and no call failed [own]
abbrev pub ReadsInput : {T : Type 0} → (T → List ℕ) → Use → Result T InputFault → Type 0
ReadsInput items source (Ok input) = IsRead source (items input)
ReadsInput items source (Err Read) = HasFailed source
ReadsInput items source (Err Memory) = HasNotFailed source
