-- One thing that looks like a mistake in an accepted report.
use Rattle.std.specs.Prelude.{ℕ, List}
use Rattle.report_notes.specs.declared.doubles.Identity.{Identity}
use Rattle.report_notes.specs.declared.note.RoundNote.{RoundNote}

-- one thing that looks like a mistake, and its line, round or player [own]
pub data Noted : Type 0 where
  NoPlayer : ℕ → ℕ → Noted
  PlayedLast : ℕ → ℕ → Noted
  UnknownKind : ℕ → List ℕ → Noted
  BlankBefore : ℕ → List ℕ → Noted
  OnePlayer : ℕ → Noted
  ManyRounds : ℕ → Noted
  OtherCount : ℕ → ℕ → ℕ → Noted
  BeforeName : ℕ → Noted
  SameAs : ℕ → Identity → ℕ → Noted
  LongName : ℕ → Noted
  RatingAbove : ℕ → ℕ → ℕ → Noted
  EarlyPoints : ℕ → Noted
  InRound : ℕ → ℕ → RoundNote → Noted
  BehindColumn : ℕ → ℕ → Noted
  NoGame : ℕ → Noted
  Byes : ℕ → ℕ → Noted
  NobodyPresent : ℕ → Noted
  StartRanks : ℕ → ℕ → ℕ → Noted
  RoundsUnknown : Noted
