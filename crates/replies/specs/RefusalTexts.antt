-- Why a report is refused, cannot be paired further, or has no standings: a line for each reason.
use Rattle.std.specs.Prelude.{ℕ, List, ◌++◌, codes}
use Rattle.std.specs.Fmt.{decimal}
use Rattle.dutch_player.specs.declared.fault.FieldFault.{FieldFault}
use Rattle.dutch_player.specs.declared.fault.FieldFault.TheVariants.{Unfinished, Unsupported, RoundsUnknown, RoundsOver, OutOfMemory as FieldMemory}
use Rattle.tables.specs.declared.fault.TieFault.{TieFault}
use Rattle.tables.specs.declared.fault.TieFault.TheVariants.{Unfinished as TieUnfinished, Unsupported as TieUnsupported, OutOfMemory as TieMemory}
use Rattle.trf16_report.specs.declared.fault.Excess.{Excess}
use Rattle.trf16_report.specs.declared.fault.Excess.TheVariants.{Bytes, Players, Rounds}
use Rattle.trf16_report.specs.declared.fault.Fault.{Fault}
use Rattle.trf16_report.specs.declared.fault.Fault.TheVariants.{BadNumber, Duplicate, Misaligned, BadCell, BadExtension, TooMany, NoPlayers, NoSuchOpponent, SelfOpponent, NotMutual, Colours, Results, Points, OutOfMemory}

-- memory was refused
abbrev pub memory_text : List ℕ
memory_text = codes "memory: refused\n"

-- what a report has too much of
abbrev pub excess_text : Excess → List ℕ
excess_text Bytes = codes "refused: too many bytes\n"
excess_text Players = codes "refused: too many players\n"
excess_text Rounds = codes "refused: too many rounds\n"

-- what is wrong with a line of a report [with fault_text]
abbrev pub line_text : ℕ → List ℕ → List ℕ
line_text line what = codes "refused: line " ++ (decimal line ++ what)

-- what does not fit in a round of a player
abbrev pub round_text : ℕ → ℕ → List ℕ → List ℕ
round_text player round what = codes "refused: player " ++ (decimal player ++ (codes " round " ++ (decimal round ++ what)))

-- why a report is refused: the line or the player at fault, and what it is [own]
abbrev pub fault_text : Fault → List ℕ
fault_text (BadNumber line) = line_text line (codes ": bad number\n")
fault_text (Duplicate line) = line_text line (codes ": duplicate\n")
fault_text (Misaligned line column) = line_text line (codes ": column " ++ (decimal column ++ codes " must be blank\n"))
fault_text (BadCell line round) = line_text line (codes ": round " ++ (decimal round ++ codes ": bad cell\n"))
fault_text (BadExtension line) = line_text line (codes ": bad extension\n")
fault_text (TooMany excess) = excess_text excess
fault_text NoPlayers = codes "refused: no players\n"
fault_text (NoSuchOpponent player round) = round_text player round (codes ": no such opponent\n")
fault_text (SelfOpponent player round) = round_text player round (codes ": own opponent\n")
fault_text (NotMutual player round) = round_text player round (codes ": not mutual\n")
fault_text (Colours player round) = round_text player round (codes ": colours\n")
fault_text (Results player round) = round_text player round (codes ": results\n")
fault_text (Points player) = codes "refused: player " ++ (decimal player ++ codes ": points\n")
fault_text OutOfMemory = memory_text

-- why a report cannot be renumbered: its first line that names players in a way that is not read
abbrev pub unread_text : ℕ → List ℕ
unread_text line = line_text line (codes ": unsupported\n")

-- why the next round cannot be paired from a report [with fault_text]
abbrev pub field_text : FieldFault → List ℕ
field_text (Unfinished player round) = round_text player round (codes ": unfinished\n")
field_text (Unsupported line) = line_text line (codes ": unsupported\n")
field_text RoundsUnknown = codes "refused: rounds unknown\n"
field_text RoundsOver = codes "refused: all rounds are played\n"
field_text FieldMemory = memory_text

-- why a report has no standings [with fault_text]
abbrev pub tie_text : TieFault → List ℕ
tie_text (TieUnfinished player round) = round_text player round (codes ": unfinished\n")
tie_text (TieUnsupported line) = line_text line (codes ": unsupported\n")
tie_text TieMemory = memory_text
