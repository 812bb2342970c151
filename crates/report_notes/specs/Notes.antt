-- What of an accepted report looks like a mistake: line by line, and then round by round.
use Rattle.std.specs.Prelude.{ℕ, ◌+◌, ◌*◌, Bool, true, false, not, ◌==◌, nat_le, if◌then◌else◌, List, [], ◌∷◌, ◌++◌, map, drop, length, codes, Option, Some, None, option_and_then}
use Rattle.std.specs.Bool.{then_some}
use Rattle.std.specs.List.{list_all, list_any}
use Rattle.std.specs.Option.{option_map_or}
use Rattle.std.specs.Str.{byte}
use Rattle.trf16_report.specs.Prelude.{without_marks, lines, columns, joined, text, is_blank, words, number_in, number_of, without_blanks, is_kind, is_word, words_of, Entry, Sheet, known, rounds_played, is_player, player_of}
use Rattle.report_notes.specs.Doubles.{same_before}
use Rattle.report_notes.specs.Games.{start_in, played_last, counts_to_come}
use Rattle.report_notes.specs.Noted.{Noted, NoPlayer, PlayedLast, UnknownKind, BlankBefore, OnePlayer, ManyRounds, OtherCount, BeforeName, SameAs, LongName, RatingAbove, EarlyPoints, InRound, BehindColumn}
use Rattle.report_notes.specs.PlayerRounds.{of_rounds_behind, round_notes}
use Rattle.report_notes.specs.Ratings.{late_above, start_ranks_notes}
use Rattle.report_notes.specs.Rounds.{nobody_notes, report_rounds_notes, total_notes}
use Rattle.report_notes.specs.declared.doubles.Identity.{Identity}
use Rattle.report_notes.specs.declared.doubles.Identity.TheVariants.{Name, FideNumber}
use Rattle.report_notes.specs.declared.ratings.RatedAbove.{RatedAbove}

-- a kind is known: it is read, it refuses a command, or it is one of TRF16's that are carried
unfoldable pub is_known : List ℕ → Bool
is_known kind = list_any (is_word kind) (words (codes "001 012 013 022 032 042 052 062 072 082 092 102 112 122 132 XXA XXC XXP XXR XXS XXZ"))

-- the kind of a line: its first three columns, whatever blanks stand in front of them
abbrev pub kind_in : Bool → List ℕ → List ℕ
kind_in utf8 line = text (columns utf8 (without_blanks line)) 1 3

-- a blank stands in front
abbrev pub begins_blank : List ℕ → Bool
begins_blank [] = false
begins_blank (b ∷ rest) = b == byte " "

-- a number that no player has
abbrev pub stranger : Sheet → Option ℕ → List ℕ
stranger sheet None = []
stranger sheet (Some number) = if known sheet number then [] else number ∷ []

-- the numbers among some words that no player has
abbrev pub strangers : Sheet → List (List ℕ) → List ℕ
strangers sheet [] = []
strangers sheet (word ∷ rest) = stranger sheet (number_of word) ++ strangers sheet rest

-- what is noted of a number of a line XXZ
abbrev pub number_notes : Sheet → ℕ → Option ℕ → List Noted
number_notes sheet n None = []
number_notes sheet n (Some number) =
    if not (known sheet number) then NoPlayer n number ∷ []
    else (if played_last sheet number then PlayedLast n number ∷ [] else [])

-- XXZ: of each number, that no player has it, or that its player played the last round [with carried_notes]
abbrev pub absent_notes : Sheet → ℕ → List (List ℕ) → List Noted
absent_notes sheet n [] = []
absent_notes sheet n (word ∷ rest) = number_notes sheet n (number_of word) ++ absent_notes sheet n rest

-- each of some words is a number
abbrev pub are_all : ℕ → List (List ℕ) → Bool
are_all number all = list_all (λ word. option_map_or (λ n. n == number) (number_of word) false) all

-- there are words, and all of them are one number
abbrev pub names_one : List (List ℕ) → Bool
names_one [] = false
names_one (word ∷ rest) = option_map_or (λ number. are_all number rest) (number_of word) false

-- XXP: each number that no player has; then, where it is so, that the line names one player [with carried_notes]
abbrev pub name_notes : Sheet → ℕ → List (List ℕ) → Bool → List Noted
name_notes sheet n names alone = map (NoPlayer n) (strangers sheet names) ++ (if alone then OnePlayer n ∷ [] else [])

-- a note, where a test holds
abbrev pub note_if : Bool → Noted → List Noted
note_if false note = []
note_if true note = note ∷ []

-- a line XXR names at least as many rounds as there are players [with carried_notes]
abbrev pub has_many_rounds : Sheet → Bool
has_many_rounds sheet = option_map_or (λ total. nat_le (length sheet.players) total) sheet.total false

-- the number of players that a line 062 names, if it is another [with carried_notes]
abbrev pub other_count : Sheet → List (List ℕ) → Option ℕ
other_count sheet all = option_and_then (λ said. then_some (not (said == length sheet.players)) said) (number_in all)

-- that it is another, if it is
abbrev pub count_notes : Sheet → ℕ → Option ℕ → List Noted
count_notes sheet n None = []
count_notes sheet n (Some said) = OtherCount n said (length sheet.players) ∷ []

-- line n, of a kind that is known
abbrev pub extension_notes : Sheet → ℕ → List (List ℕ) → List Noted
extension_notes sheet n line =
    if is_kind (codes "XXZ") line then absent_notes sheet n (words_of line)
    else (if is_kind (codes "XXP") line then name_notes sheet n (words_of line) (names_one (words_of line))
    else (if is_kind (codes "XXR") line then note_if (has_many_rounds sheet) (ManyRounds n)
    else (if is_kind (codes "062") line then count_notes sheet n (other_count sheet (words_of line)) else [])))

-- of line n, which is carried: nothing where it is blank; else that its kind is not known; else that blanks stand before the kind; else
-- what `absent_notes`, `name_notes`, `has_many_rounds` and `other_count` say of XXZ, XXP, XXR and 062 [own]
abbrev pub carried_notes : Sheet → ℕ → List ℕ → List Noted
carried_notes sheet n line =
    if is_blank line then []
    else (if not (is_known (kind_in sheet.utf8 line)) then UnknownKind n (kind_in sheet.utf8 line) ∷ []
    else (if begins_blank line then BlankBefore n (kind_in sheet.utf8 line) ∷ []
    else extension_notes sheet n (columns sheet.utf8 line)))

-- column 14, between title and name, is not blank
abbrev pub stands_before_name : List (List ℕ) → Bool
stands_before_name line = not (is_blank (text line 14 14))

-- column 48, between name and rating, is not blank
abbrev pub name_runs_on : List (List ℕ) → Bool
name_runs_on line = not (is_blank (text line 48 48))

-- the last column of the round that comes next: 101, and ten for each round that was paired
abbrev pub last_column : Sheet → ℕ
last_column sheet = 101 + 10 * rounds_played sheet

-- something stands behind that column
abbrev pub goes_on_behind : Sheet → List (List ℕ) → Bool
goes_on_behind sheet line = not (is_blank (joined (drop (last_column sheet) line)))

-- the rounds of a player behind a given one, in line n
abbrev pub rounds_notes : Sheet → ℕ → ℕ → ℕ → List Noted
rounds_notes sheet n start before = of_rounds_behind (λ round. map (InRound n round) (round_notes sheet start round)) sheet before

-- the cells of a player's line, line n: its rounds, and that something stands behind the columns of the next round
abbrev pub cells_notes : Sheet → ℕ → List (List ℕ) → List Noted
cells_notes sheet n line = rounds_notes sheet n (start_in line) 0 ++ note_if (goes_on_behind sheet line) (BehindColumn n (last_column sheet))

-- the points field in a player's line counts a round to come
abbrev pub points_come_early : Sheet → List (List ℕ) → Bool
points_come_early sheet line = option_map_or (counts_to_come sheet) (player_of sheet.players (start_in line)) false

-- that a player has a name or FIDE number of another player, if it is so
abbrev pub same_notes : ℕ → Identity → Option ℕ → List Noted
same_notes n what None = []
same_notes n what (Some player) = SameAs n what player ∷ []

-- that a late entry's rating is above that of another player, if it is
abbrev pub rating_notes : ℕ → Option RatedAbove → List Noted
rating_notes n None = []
rating_notes n (Some above) = RatingAbove n above.rating above.player ∷ []

-- who a player's line says that it is, line n, in the order of its columns: column 14, a name that an earlier player has, that the name runs
-- on, a late entry's rating, and a FIDE number that an earlier player has [with player_notes]
abbrev pub person_notes : Sheet → ℕ → List (List ℕ) → Option Entry → List Noted
person_notes sheet n line entry =
    note_if (stands_before_name line) (BeforeName n) ++ (same_notes n Name (option_and_then (same_before sheet Name) entry)
    ++ (note_if (name_runs_on line) (LongName n) ++ (rating_notes n (option_and_then (late_above sheet) entry)
    ++ same_notes n FideNumber (option_and_then (same_before sheet FideNumber) entry))))

-- of line n, a player's, in the order of its columns: what `person_notes` says, that its points come early, what of its rounds, and that it
-- goes on behind the next round [own]
abbrev pub player_notes : Sheet → ℕ → List (List ℕ) → List Noted
player_notes sheet n line =
    person_notes sheet n line (player_of sheet.players (start_in line))
    ++ (note_if (points_come_early sheet line) (EarlyPoints n) ++ cells_notes sheet n line)

-- line n
abbrev pub line_notes : Sheet → ℕ → List ℕ → List Noted
line_notes sheet n line = if is_player (columns sheet.utf8 line) then player_notes sheet n (columns sheet.utf8 line) else carried_notes sheet n line

-- some lines, of which the first is line n
abbrev pub notes_from : Sheet → ℕ → List (List ℕ) → List Noted
notes_from sheet n [] = []
notes_from sheet n (line ∷ rest) = line_notes sheet n line ++ notes_from sheet (n + 1) rest

-- behind the lines: round by round, the round that comes next, the order of the start ranks, and the number of rounds [with notes_of]
abbrev pub closing_notes : Sheet → List Noted
closing_notes sheet = report_rounds_notes sheet 0 ++ (nobody_notes sheet ++ (start_ranks_notes sheet ++ total_notes sheet))

-- all that looks like a mistake in the bytes of a report: line by line, and then behind the lines [own]
abbrev pub notes_of : Sheet → List ℕ → List Noted
notes_of sheet bytes = notes_from sheet 1 (lines (without_marks bytes)) ++ closing_notes sheet
