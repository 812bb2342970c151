-- The lines of `check --notes`.
use Rattle.std.specs.Prelude.{ℕ, List, [], ◌∷◌, ◌++◌, codes}
use Rattle.std.specs.List.{find, flat_map}
use Rattle.std.specs.Option.{option_map_or}
use Rattle.std.specs.Fmt.{decimal}
use Rattle.trf16_report.specs.Prelude.{is_word}
use Rattle.report_notes.specs.Noted.{Noted, NoPlayer, PlayedLast, UnknownKind, BlankBefore, OnePlayer, ManyRounds, OtherCount, BeforeName}
use Rattle.report_notes.specs.Noted.{SameAs, LongName, RatingAbove, EarlyPoints, InRound, BehindColumn, NoGame, Byes, NobodyPresent}
use Rattle.report_notes.specs.Noted.{StartRanks, RoundsUnknown}
use Rattle.report_notes.specs.declared.doubles.Identity.{Identity}
use Rattle.report_notes.specs.declared.doubles.Identity.TheVariants.{Name, FideNumber}
use Rattle.report_notes.specs.declared.note.RoundNote.{RoundNote}
use Rattle.report_notes.specs.declared.note.RoundNote.TheVariants.{NoResult, MeetsAgain, AnotherBye, HalfPoint, NoPoint, NoCell}
use Rattle.common_texts.specs.Controls.{without_controls}

-- what is told of a player's round
unfoldable pub round_note_text : RoundNote → List ℕ
round_note_text NoResult = codes " has no result"
round_note_text (MeetsAgain player) = codes " meets player " ++ (decimal player ++ codes " again")
round_note_text AnotherBye = codes " is another bye"
round_note_text HalfPoint = codes " gives half a point in all"
round_note_text NoPoint = codes " gives no point in all"
round_note_text NoCell = codes " has no cell"

-- what is told of a line
abbrev pub line_front : ℕ → List ℕ → List ℕ
line_front line what = codes "note line " ++ (decimal line ++ what)

-- what is told of a round in a player's line
abbrev pub round_front : ℕ → ℕ → List ℕ → List ℕ
round_front line round what = line_front line (codes ": round " ++ (decimal round ++ what))

-- what two players share
abbrev pub identity_text : Identity → List ℕ
identity_text Name = codes "name"
identity_text FideNumber = codes "FIDE number"

-- what is told of a note that stands behind those on lines; of one on a line nothing
unfoldable pub closing_text : Noted → List ℕ
closing_text (NoGame round) = codes "note round " ++ (decimal round ++ codes ": no game")
closing_text (Byes round players) = codes "note round " ++ (decimal round ++ (codes ": " ++ (decimal players ++ codes " players have the bye")))
closing_text (NobodyPresent round) = codes "note round " ++ (decimal round ++ codes ": nobody is present")
closing_text (StartRanks rating player other) =
    codes "note start ranks: rating " ++ (decimal rating ++ (codes " of player " ++ (decimal player ++ (codes " is above that of player " ++ decimal other))))
closing_text RoundsUnknown = codes "note rounds unknown"
closing_text note = []

-- the line of a note up to what is told of a kind
unfoldable pub front_text : Noted → List ℕ
front_text (NoPlayer line number) = line_front line (codes ": no player " ++ decimal number)
front_text (PlayedLast line number) = line_front line (codes ": player " ++ (decimal number ++ codes " played the last round"))
front_text (UnknownKind line kind) = line_front line (codes ": ")
front_text (BlankBefore line kind) = line_front line (codes ": ")
front_text (OnePlayer line) = line_front line (codes ": names one player")
front_text (ManyRounds line) = line_front line (codes ": more rounds than opponents")
front_text (OtherCount line said players) = line_front line (codes ": 062 says " ++ (decimal said ++ (codes ", players " ++ decimal players)))
front_text (BeforeName line) = line_front line (codes ": column 14 is not blank")
front_text (SameAs line what player) = line_front line (codes ": same " ++ (identity_text what ++ (codes " as player " ++ decimal player)))
front_text (LongName line) = line_front line (codes ": the name runs into column 48")
front_text (RatingAbove line rating player) = line_front line (codes ": rating " ++ (decimal rating ++ (codes " is above that of player " ++ decimal player)))
front_text (EarlyPoints line) = line_front line (codes ": the points count a round to come")
front_text (InRound line round what) = round_front line round (round_note_text what)
front_text (BehindColumn line column) = line_front line (codes ": behind column " ++ (decimal column ++ codes " nothing is read"))
front_text note = closing_text note

-- the kinds of lines that other programs write and that are not read: of each what a line of it says, and what to use instead [own]
unfoldable pub other_kinds : List (List ℕ × List ℕ)
other_kinds =
    (codes "BBW", codes "gives the points of a win: if not 1.0, use another program")
    ∷ (codes "BBD", codes "gives the points of a draw: if not 0.5, use another program")
    ∷ (codes "BBL", codes "gives the points of a loss: if not 0.0, use another program")
    ∷ (codes "BBZ", codes "gives the points of an absence: if not 0.0, use another program")
    ∷ (codes "BBF", codes "gives the points of a forfeit loss: if not 0.0, use another program")
    ∷ (codes "BBU", codes "gives the points of the pairing-allocated bye: use --bye, in half points")
    ∷ (codes "162", codes "gives the points of results: if unusual, use --bye or another program")
    ∷ (codes "172", codes "names the method of the start ranks: use those in columns 5 to 8")
    ∷ (codes "240", codes "gives byes that players asked for: use enter with H, F or Z")
    ∷ (codes "250", codes "accelerates the pairing: use another program")
    ∷ (codes "260", codes "keeps players apart in another format: use XXP")
    ∷ []

-- a text, and behind it a kind without its control characters
abbrev pub kind_text : List ℕ → List ℕ → List ℕ
kind_text front kind = front ++ without_controls kind

-- of an unknown kind: if it is one of `other_kinds`, in either case, its name and what a line of it says; else that it is unknown, and the
-- kind without its control characters [with notes_text]
abbrev pub unknown_text : List ℕ → List ℕ
unknown_text kind =
    option_map_or (λ other. other.0 ++ (codes " " ++ other.1)) (find (λ other. is_word kind other.0) other_kinds) (kind_text (codes "unknown kind ") kind)

-- what a note tells of a kind, or nothing
abbrev pub told_of_kind : Noted → List ℕ
told_of_kind (UnknownKind line kind) = unknown_text kind
told_of_kind (BlankBefore line kind) = kind_text (codes "blank before ") kind
told_of_kind _ = []

-- the line of a note
abbrev pub note_text : Noted → List ℕ
note_text note = front_text note ++ (told_of_kind note ++ codes "\n")

-- the lines of `check --notes`: of each note the number of its line and what was found; of an unknown kind `unknown_text`, and of a known kind
-- with blanks before it the kind [own]
abbrev pub notes_text : List Noted → List ℕ
notes_text notes = flat_map note_text notes
