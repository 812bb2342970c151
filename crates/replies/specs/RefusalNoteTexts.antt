-- The lines of `check --notes` beside a refusal: what was found.
use Rattle.std.specs.Prelude.{ℕ, ◌-◌, Bool, nat_le, if◌then◌else◌, List, [], ◌++◌, length, codes, Option, Some, None, option_and_then, Result, Ok, Err}
use Rattle.std.specs.Option.{option_map_or}
use Rattle.std.specs.Fmt.{decimal}
use Rattle.std.specs.Str.{is_utf8}
use Rattle.trf16_report.specs.Prelude.{Sheet, blanks, columns, unfinished, verdict_unsummed, without_marks}
use Rattle.trf16_report.specs.declared.fault.Excess.TheVariants.{Players, Rounds}
use Rattle.trf16_report.specs.declared.fault.Fault.{Fault}
use Rattle.trf16_report.specs.declared.fault.Fault.TheVariants.{BadExtension, Colours, Duplicate, TooMany, NoPlayers, NoSuchOpponent, NotMutual, Points, Results}
use Rattle.trf16_report.specs.declared.limits.TheConstants.{MOST_ROUNDS}
use Rattle.report_notes.specs.RefusalNotes.{byte_order, cell_held, columns_of, extension_at, first_kind_note, first_saying, fits_in_bytes, text_at, line_of}
use Rattle.report_notes.specs.RefusalNotes.{opponent_held, repeated_at, sums_among, zero_byte}
use Rattle.report_notes.specs.declared.encoding.ByteOrder.{ByteOrder}
use Rattle.report_notes.specs.declared.encoding.ByteOrder.TheVariants.{Little, Big}
use Rattle.report_notes.specs.declared.extension.Extension.{Extension}
use Rattle.report_notes.specs.declared.extension.Extension.TheVariants.{Xxr, Xxc, Xxz, Xxp}
use Rattle.report_notes.specs.declared.refusal.Columns.{Columns}
use Rattle.report_notes.specs.declared.refusal.Sums.{Sums}
use Rattle.report_notes.specs.declared.repeated.Repeated.{Repeated}
use Rattle.report_notes.specs.declared.repeated.Repeated.TheVariants.{StartRank, Rounds as TheRounds}
use Rattle.replies.specs.RefusalTexts.{fault_text}
use Rattle.common_texts.specs.Controls.{without_controls}
use Rattle.replies.specs.NoteTexts.{note_text}
use Rattle.replies.specs.Statuses.{Answer}
use Rattle.common_texts.specs.Texts.{halves_text}

-- ---- columns

-- the columns that a refusal is about
unfoldable pub columns_text : Columns → List ℕ
columns_text place = codes "note line " ++ (decimal place.line ++ (codes ": columns " ++ (decimal place.first ++ (codes " to " ++ (decimal place.last ++ codes " hold \"")))))

-- what these columns of a text hold, without its control characters; nothing where the refusal is about no columns
abbrev pub held_text : Option Columns → List ℕ → List ℕ
held_text None input = []
held_text (Some place) input = columns_text place ++ (without_controls (text_at input place) ++ codes "\"\n")

-- a line fits if its columns are bytes
unfoldable pub bytes_text : ℕ → List ℕ
bytes_text line = codes "note line " ++ (decimal line ++ codes ": fits if columns are bytes\n")

-- the line whose columns are at fault, if it fits where they are bytes
abbrev pub line_in_bytes : Fault → List ℕ → ℕ → Option ℕ
line_in_bytes fault input bye = option_and_then (λ line. if fits_in_bytes input bye line then Some line else None) (line_of fault)

-- a refusal of a line: that the line fits if columns are bytes, or else what the columns hold that the refusal is about
abbrev pub line_note : Fault → List ℕ → ℕ → List ℕ
line_note fault input bye = option_map_or bytes_text (line_in_bytes fault input bye) (held_text (columns_of fault input) input)

-- ---- points

-- a points field, and the sums that it was compared with
unfoldable pub sums_text : Sums → List ℕ
sums_text sums =
    codes "note player " ++ (decimal sums.player ++ (codes ": points field " ++ (halves_text sums.field ++ (codes ", rounds paired "
    ++ (halves_text sums.paired ++ (codes ", all rounds " ++ (halves_text sums.all ++ codes "\n")))))))

-- the first game without a result, if there is one
unfoldable pub unfinished_text : Option (ℕ × ℕ) → List ℕ
unfinished_text None = []
unfinished_text (Some game) = codes "note player " ++ (decimal game.0 ++ (codes " round " ++ (decimal game.1 ++ codes " has no result\n")))

-- a refusal of a player's points, by the verdict in which no points field is compared: their field and sums, and then the first game without
-- a result; or why the report would be refused next
abbrev pub points_note : ℕ → Result Sheet Fault → List ℕ
points_note player (Ok sheet) = option_map_or sums_text (sums_among sheet sheet.players player) [] ++ unfinished_text (unfinished sheet)
points_note player (Err fault) = codes "note then " ++ fault_text fault

-- ---- the text

-- a text in UTF-16
abbrev pub order_text : ByteOrder → List ℕ
order_text Little = codes "note bytes 1 and 2 are FF FE: this is UTF-16, save it as UTF-8\n"
order_text Big = codes "note bytes 1 and 2 are FE FF: this is UTF-16, save it as UTF-8\n"

-- a text one of whose first two bytes is 00
unfoldable pub zero_text : ℕ → List ℕ
zero_text place = codes "note byte " ++ (decimal place ++ codes " is 00: if this is UTF-16, save it as UTF-8\n")

-- a line says a start rank, or the number of rounds, that an earlier line says
unfoldable pub repeated_text : ℕ → Repeated → ℕ → List ℕ
repeated_text line (StartRank start) first = codes "note line " ++ (decimal line ++ (codes ": start rank " ++ (decimal start ++ (codes " stands in line " ++ (decimal first ++ codes " too\n")))))
repeated_text line TheRounds first = codes "note line " ++ (decimal line ++ (codes ": the number of rounds stands in line " ++ (decimal first ++ codes " too\n")))

-- what a line of a text says that an earlier line says, and the first line that says it
abbrev pub repeated_note : List ℕ → ℕ → List ℕ
repeated_note input line =
    let repeated = repeated_at input line in
    option_map_or (repeated_text line repeated) (first_saying input repeated) []

-- the first line of a text that is not read for its kind, or else something else
abbrev pub kind_or : List ℕ → List ℕ → List ℕ
kind_or input other = option_map_or note_text (first_kind_note input) other

-- the beginning of what the lines of two players hold of a round
unfoldable pub front_of_cell : ℕ → ℕ → List ℕ
front_of_cell player round = codes "note player " ++ (decimal player ++ (codes " round " ++ (decimal round ++ codes ": \"")))

-- what stands between the cells of the two players
unfoldable pub front_of_answer : ℕ → List ℕ
front_of_answer opponent = codes "\", player " ++ (decimal opponent ++ codes ": \"")

-- a cell as a line holds it, without its control characters; where the line ends before the cell's eight columns, blanks stand in them
abbrev pub cell_shown : Bool → List ℕ → List ℕ
cell_shown utf8 cell = without_controls cell ++ blanks (8 - length (columns utf8 cell))

-- what the lines of two players hold of a round, of whom the second is named by the first
abbrev pub cells_text : List ℕ → ℕ → ℕ → List ℕ
cells_text input player round =
    let utf8 = is_utf8 (without_marks input) in
    let opponent = opponent_held input player round in
    front_of_cell player round ++ (cell_shown utf8 (cell_held input player round) ++ (front_of_answer opponent
    ++ (cell_shown utf8 (cell_held input opponent round) ++ codes "\"\n")))

-- the same, where there can be such a round
abbrev pub cells_note : List ℕ → ℕ → ℕ → List ℕ
cells_note input player round = if nat_le round MOST_ROUNDS then cells_text input player round else []

-- what an extension wants
abbrev pub wanted_text : Extension → List ℕ
wanted_text Xxr = codes "XXR wants one number of rounds\n"
wanted_text Xxc = codes "XXC wants white1 or black1, and rank if you like\n"
wanted_text Xxz = codes "XXZ wants numbers from 1 to 9999 with blanks between them\n"
wanted_text Xxp = codes "XXP wants numbers from 1 to 9999 with blanks between them\n"

-- what the extension of a line wants
unfoldable pub extension_text : ℕ → Extension → List ℕ
extension_text line extension = codes "note line " ++ (decimal line ++ (codes ": " ++ wanted_text extension))

-- the same of a line of a text, if its kind is one of these
abbrev pub extension_note : List ℕ → ℕ → List ℕ
extension_note input line = option_map_or (extension_text line) (extension_at input line) []

-- ---- a refusal

-- of a points field its sums and the first game without a result, or why the report would be refused next; of an extension what it wants;
-- of a start rank or number of rounds that stands twice its first line; of a missing player, of two cells or of a line what they hold [with
-- refusal_note]
abbrev pub found_note : Fault → List ℕ → ℕ → List ℕ
found_note (Points player) input bye = points_note player (verdict_unsummed input bye)
found_note (BadExtension line) input bye = extension_note input line
found_note (Duplicate line) input bye = repeated_note input line
found_note (Colours player round) input bye = cells_note input player round
found_note (Results player round) input bye = cells_note input player round
found_note (NotMutual player round) input bye = kind_or input (cells_note input player round)
found_note (NoSuchOpponent player round) input bye = kind_or input []
found_note (TooMany Players) input bye = kind_or input []
found_note (TooMany Rounds) input bye = kind_or input []
found_note NoPlayers input bye = kind_or input []
found_note fault input bye = line_note fault input bye

-- the same, or that the text may be UTF-16 without a mark in front
abbrev pub unmarked_note : Fault → List ℕ → ℕ → List ℕ
unmarked_note fault input bye = option_map_or zero_text (zero_byte input) (found_note fault input bye)

-- the note of a refusal, or nothing: that the text is UTF-16, or may be; else what was `found_note` [own]
abbrev pub refusal_note : Fault → List ℕ → ℕ → List ℕ
refusal_note fault input bye = option_map_or order_text (byte_order input) (unmarked_note fault input bye)

-- an answer with a note
abbrev pub with_note : Answer → List ℕ → Answer
with_note answer note = record { status = answer.status; text = answer.text; note = note }
