-- What stands where a report is refused: what the columns hold that a refusal is about, whether they were counted in bytes, the sums that a
-- points field was compared with, how the text is encoded, what an earlier line says already, lines whose kinds are not read, and the cells
-- of two who do not fit together.
use Rattle.std.specs.Prelude.{ℕ, ◌+◌, ◌-◌, ◌*◌, ◌/◌, Bool, true, false, not, ◌&&◌, ◌||◌, ◌==◌, nat_le, nat_lt, if◌then◌else◌, List, [], ◌∷◌, ◌++◌, codes, sum_by, take, slice_index_or, Option, Some, None, option_map, option_and_then, Result, Err}
use Rattle.std.specs.Option.{option_map_or}
use Rattle.std.specs.Str.{byte, is_utf8}
use Rattle.trf16_report.specs.Prelude.{without_marks, lines, columns, text, is_blank, is_kind, is_player, number_in, words, player_of, Entry, Sheet, half_points, rounds_played, verdict_unsummed}
use Rattle.trf16_report.specs.declared.fault.Excess.TheVariants.{Bytes}
use Rattle.trf16_report.specs.declared.fault.Fault.{Fault}
use Rattle.trf16_report.specs.declared.fault.Fault.TheVariants.{BadNumber, Duplicate, Misaligned, BadCell, BadExtension, TooMany}
use Rattle.trf16_report.specs.declared.limits.TheConstants.{MOST_ROUNDS, LAST_COLUMN}
use Rattle.report_notes.specs.Games.{start_in}
use Rattle.report_notes.specs.Noted.{Noted, UnknownKind, BlankBefore}
use Rattle.report_notes.specs.Notes.{begins_blank, is_known, kind_in}
use Rattle.report_notes.specs.declared.encoding.ByteOrder.{ByteOrder}
use Rattle.report_notes.specs.declared.encoding.ByteOrder.TheVariants.{Little, Big}
use Rattle.report_notes.specs.declared.extension.Extension.{Extension}
use Rattle.report_notes.specs.declared.extension.Extension.TheVariants.{Xxr, Xxc, Xxz, Xxp}
use Rattle.report_notes.specs.declared.refusal.Columns.{Columns}
use Rattle.report_notes.specs.declared.refusal.Sums.{Sums}
use Rattle.report_notes.specs.declared.repeated.Repeated.{Repeated}
use Rattle.report_notes.specs.declared.repeated.Repeated.TheVariants.{StartRank, Rounds}

-- ---- columns

-- line n of a text, which counts from 1; behind the last line there is nothing [with text_at]
abbrev pub line_in : List ℕ → ℕ → List ℕ
line_in bytes n = slice_index_or (lines (without_marks bytes)) (n - 1) []

-- opponent, colour and result of a round: columns 92 to 99, and ten further for each later round
abbrev pub cell_columns : ℕ → ℕ → Columns
cell_columns line round = record { line = line; first = 82 + 10 * round; last = 89 + 10 * round }

-- a column that must be blank, with what it stands between: kind and start rank, points and rank, or a round
abbrev pub columns_around : ℕ → ℕ → Columns
columns_around line column =
    if nat_lt column 9 then record { line = line; first = 1; last = 8 }
    else (if nat_lt column 92 then record { line = line; first = 81; last = 91 }
    else record { line = line; first = 92 + 10 * ((column - 92) / 10); last = 101 + 10 * ((column - 92) / 10) })

-- the columns of a line of a text
abbrev pub columns_in : List ℕ → ℕ → List (List ℕ)
columns_in bytes n = columns (is_utf8 (without_marks bytes)) (line_in bytes n)

-- the number field that is at fault in a player's line: the start rank, or where one stands there the points
abbrev pub number_columns : List ℕ → ℕ → Columns
number_columns bytes line =
    if start_in (columns_in bytes line) == 0 then record { line = line; first = 5; last = 8 } else record { line = line; first = 81; last = 84 }

-- the columns that a refusal is about: of a bad number its field; of a bad cell those of opponent, colour and result; of a column that must
-- be blank what it stands between [own]
abbrev pub columns_of : Fault → List ℕ → Option Columns
columns_of (BadNumber line) bytes = Some (number_columns bytes line)
columns_of (BadCell line round) bytes = if nat_le round MOST_ROUNDS then Some (cell_columns line round) else None
columns_of (Misaligned line column) bytes = if nat_le column LAST_COLUMN then Some (columns_around line column) else None
columns_of fault bytes = None

-- what some columns of a text hold; columns past the line's end are missing [own]
abbrev pub text_at : List ℕ → Columns → List ℕ
text_at bytes place = text (columns_in bytes place.line) place.first place.last

-- ---- columns that were counted in bytes

-- the line whose columns are at fault [with columns_of]
abbrev pub line_of : Fault → Option ℕ
line_of (BadNumber line) = Some line
line_of (Misaligned line column) = Some line
line_of (BadCell line round) = Some line
line_of fault = None

-- a line alone as a text whose columns are bytes: behind it stands a byte that is in no UTF-8 [with are_lines_read]
abbrev pub alone_in_bytes : List ℕ → List ℕ
alone_in_bytes line = line ++ (byte "\n" ∷ 0xFF ∷ [])

-- each line of a text is read: it has not too many bytes, and no rule on a line is broken [own]
abbrev pub are_lines_read : Result Sheet Fault → Bool
are_lines_read (Err (TooMany Bytes)) = false
are_lines_read (Err (BadNumber line)) = false
are_lines_read (Err (Duplicate line)) = false
are_lines_read (Err (Misaligned line column)) = false
are_lines_read (Err (BadCell line round)) = false
are_lines_read (Err (BadExtension line)) = false
are_lines_read _ = true

-- a line of a text in UTF-8, whose columns are characters, breaks no rule on a line where it stands alone and its columns are bytes
abbrev pub fits_in_bytes : List ℕ → ℕ → ℕ → Bool
fits_in_bytes bytes bye n = is_utf8 (without_marks bytes) && are_lines_read (verdict_unsummed (alone_in_bytes (line_in bytes n)) bye)

-- ---- sums

-- the points field of a player, the sum over the rounds that were paired, and the sum over all rounds; nothing where the field is blank
-- [own]
abbrev pub sums_of : Sheet → Entry → Option Sums
sums_of sheet entry = option_map (λ points. record {
  player = entry.start;
  field = points;
  paired = sum_by (half_points sheet.bye) (take (rounds_played sheet) entry.cells);
  all = sum_by (half_points sheet.bye) entry.cells;
}) entry.points

-- the same of the player with a start rank, of some [with sums_of]
abbrev pub sums_among : Sheet → List Entry → ℕ → Option Sums
sums_among sheet entries start = option_and_then (sums_of sheet) (player_of entries start)

-- ---- the encoding

-- which byte order a text in UTF-16 has, by the two bytes at its front [with first_kind_note]
abbrev pub byte_order : List ℕ → Option ByteOrder
byte_order (a ∷ b ∷ rest) =
    if (a == 0xFF) && (b == 0xFE) then Some Little else (if (a == 0xFE) && (b == 0xFF) then Some Big else None)
byte_order _ = None

-- which of the first two bytes of a text is 00, as in UTF-16, from 1 [with first_kind_note]
abbrev pub zero_byte : List ℕ → Option ℕ
zero_byte [] = None
zero_byte (a ∷ []) = if a == 0 then Some 1 else None
zero_byte (a ∷ b ∷ rest) = if a == 0 then Some 1 else (if b == 0 then Some 2 else None)

-- ---- what stands twice

-- what a line repeats that an earlier one says: a player's its start rank, another one the number of rounds [with first_saying]
abbrev pub repeated_in : List (List ℕ) → Repeated
repeated_in line = if is_player line then StartRank (start_in line) else Rounds

-- a line says it
abbrev pub says : Repeated → List (List ℕ) → Bool
says (StartRank start) line = is_player line && (start_in line == start)
says Rounds line = is_kind (codes "XXR") line

-- the first of some lines that says it, where the first of them is line n
abbrev pub first_saying_from : Repeated → Bool → ℕ → List (List ℕ) → Option ℕ
first_saying_from repeated utf8 n [] = None
first_saying_from repeated utf8 n (line ∷ rest) =
    if says repeated (columns utf8 line) then Some n else first_saying_from repeated utf8 (n + 1) rest

-- what line n of a text repeats [with first_saying]
abbrev pub repeated_at : List ℕ → ℕ → Repeated
repeated_at bytes n = repeated_in (columns_in bytes n)

-- the number of the first line of a text that says a start rank, or the number of rounds [own]
abbrev pub first_saying : List ℕ → Repeated → Option ℕ
first_saying bytes repeated = first_saying_from repeated (is_utf8 (without_marks bytes)) 1 (lines (without_marks bytes))

-- ---- kinds

-- line n, if it is no player's and not blank: that its kind is not known, or else that blanks stand before it
abbrev pub kind_note : Bool → ℕ → List ℕ → Option Noted
kind_note utf8 n line =
    if is_player (columns utf8 line) || is_blank line then None
    else (if not (is_known (kind_in utf8 line)) then Some (UnknownKind n (kind_in utf8 line))
    else (if begins_blank line then Some (BlankBefore n (kind_in utf8 line)) else None))

-- the same of the first of some lines of which it is so, where the first line is line n
abbrev pub kind_note_from : Bool → ℕ → List (List ℕ) → Option Noted
kind_note_from utf8 n [] = None
kind_note_from utf8 n (line ∷ rest) = option_map_or (λ note. Some note) (kind_note utf8 n line) (kind_note_from utf8 (n + 1) rest)

-- of the first line that is no player's, not blank, and not read for its kind: that its kind is not known, or that blanks stand before it
-- [own]
abbrev pub first_kind_note : List ℕ → Option Noted
first_kind_note bytes = kind_note_from (is_utf8 (without_marks bytes)) 1 (lines (without_marks bytes))

-- ---- two cells

-- the first of some lines that is a player's with a start rank; nothing where none is
abbrev pub line_with : Bool → ℕ → List (List ℕ) → List ℕ
line_with utf8 start [] = []
line_with utf8 start (line ∷ rest) =
    if is_player (columns utf8 line) && (start_in (columns utf8 line) == start) then line else line_with utf8 start rest

-- some columns of a player's line
abbrev pub player_columns : List ℕ → ℕ → ℕ → ℕ → List ℕ
player_columns bytes start first last =
    let utf8 = is_utf8 (without_marks bytes) in
    text (columns utf8 (line_with utf8 start (lines (without_marks bytes)))) first last

-- what a player's line holds of a round: opponent, colour and result [with text_at]
abbrev pub cell_held : List ℕ → ℕ → ℕ → List ℕ
cell_held bytes start round = player_columns bytes start (82 + 10 * round) (89 + 10 * round)

-- the opponent whom it names in a round; 0 where it names none [with text_at]
abbrev pub opponent_held : List ℕ → ℕ → ℕ → ℕ
opponent_held bytes start round = option_map_or (λ n. n) (number_in (words (player_columns bytes start (82 + 10 * round) (85 + 10 * round)))) 0

-- ---- extensions

-- the kind of line n, if it is one of an extension that is read [with first_kind_note]
abbrev pub extension_at : List ℕ → ℕ → Option Extension
extension_at bytes n =
    if is_kind (codes "XXR") (columns_in bytes n) then Some Xxr
    else (if is_kind (codes "XXC") (columns_in bytes n) then Some Xxc
    else (if is_kind (codes "XXZ") (columns_in bytes n) then Some Xxz
    else (if is_kind (codes "XXP") (columns_in bytes n) then Some Xxp else None)))
