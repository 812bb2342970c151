-- Notes as definitions see them, wherever they lie in memory.
use Rattle.std.specs.Prelude.{ℕ, if◌then◌else◌, List, [], ◌∷◌, ◌++◌, map, option_map}
use Rattle.std.specs.Bool.{then_some}
use Rattle.trf16_report.specs.Prelude.{words, Sheet}
use Rattle.report_notes.specs.Noted.{Noted, NoPlayer, PlayedLast, UnknownKind, BlankBefore, OnePlayer, ManyRounds, OtherCount, BeforeName, SameAs}
use Rattle.report_notes.specs.Noted.{LongName, RatingAbove, EarlyPoints, InRound, BehindColumn, NoGame, Byes, NobodyPresent}
use Rattle.report_notes.specs.Noted.{StartRanks, RoundsUnknown}
use Rattle.report_notes.specs.Notes.{absent_notes, last_column, name_notes, note_if, rating_notes, rounds_notes, same_notes}
use Rattle.report_notes.specs.PlayerRounds.{all_some}
use Rattle.report_notes.specs.Ratings.{start_ranks_notes}
use Rattle.report_notes.specs.Rounds.{nobody_notes, report_rounds_notes, total_notes}
use Rattle.report_notes.specs.declared.note.Note.{Note}
use Rattle.report_notes.specs.declared.note.RoundNote.{RoundNote}
use Rattle.report_notes.specs.declared.note.Note.TheVariants.{NoPlayer as TheNoPlayer, PlayedLast as ThePlayedLast, UnknownKind as TheUnknownKind}
use Rattle.report_notes.specs.declared.note.Note.TheVariants.{BlankBefore as TheBlankBefore, OnePlayer as TheOnePlayer, ManyRounds as TheManyRounds}
use Rattle.report_notes.specs.declared.note.Note.TheVariants.{BeforeName as TheBeforeName, LongName as TheLongName, RatingAbove as TheRatingAbove}
use Rattle.report_notes.specs.declared.note.Note.TheVariants.{EarlyPoints as TheEarlyPoints, InRound as TheInRound, BehindColumn as TheBehindColumn}
use Rattle.report_notes.specs.declared.note.Note.TheVariants.{NoGame as TheNoGame, Byes as TheByes, RoundsUnknown as TheRoundsUnknown}
use Rattle.report_notes.specs.declared.note.Note.TheVariants.{OtherCount as TheOtherCount, SameAs as TheSameAs}
use Rattle.report_notes.specs.declared.note.Note.TheVariants.{NobodyPresent as TheNobodyPresent, StartRanks as TheStartRanks}
use Rattle.report_notes.specs.declared.doubles.Identity.TheVariants.{Name, FideNumber}
use Rattle.report_notes.specs.declared.line.Left.{Left}
use Rattle.report_notes.specs.declared.line.Left.TheVariants.{Nothing, One, Names, Absent, Player}
use Rattle.report_notes.specs.declared.player_line.PlayerLeft.{PlayerLeft}
use Rattle.report_notes.specs.declared.person.PersonLeft.{PersonLeft}
use Rattle.report_notes.specs.declared.player_line.CellsLeft.{CellsLeft}
use Rattle.report_notes.specs.declared.player_rounds.PlayerRoundsLeft.{PlayerRoundsLeft}
use Rattle.report_notes.specs.declared.player_round.RoundLeft.{RoundLeft}
use Rattle.report_notes.specs.declared.rounds.RoundsLeft.{RoundsLeft}
use Rattle.report_notes.specs.declared.closing.ClosingLeft.{ClosingLeft}

-- a note by what stands in it [with Noted]
abbrev pub noted : Note → Noted
noted (TheNoPlayer line number) = NoPlayer line number
noted (ThePlayedLast line number) = PlayedLast line number
noted (TheUnknownKind line kind) = UnknownKind line kind.now
noted (TheBlankBefore line kind) = BlankBefore line kind.now
noted (TheOnePlayer line) = OnePlayer line
noted (TheManyRounds line) = ManyRounds line
noted (TheOtherCount line said players) = OtherCount line said players
noted (TheBeforeName line) = BeforeName line
noted (TheSameAs line what player) = SameAs line what player
noted (TheLongName line) = LongName line
noted (TheRatingAbove line rating player) = RatingAbove line rating player
noted (TheEarlyPoints line) = EarlyPoints line
noted (TheInRound line round what) = InRound line round what
noted (TheBehindColumn line column) = BehindColumn line column
noted (TheNoGame round) = NoGame round
noted (TheByes round players) = Byes round players
noted (TheNobodyPresent round) = NobodyPresent round
noted (TheStartRanks rating player other) = StartRanks rating player other
noted TheRoundsUnknown = RoundsUnknown

-- what is left to tell of a player's round
abbrev pub round_left_notes : RoundLeft → List RoundNote
round_left_notes left = all_some (left.result ∷ left.meeting ∷ left.bye ∷ left.points ∷ left.cell ∷ [])

-- what is left to tell of a player's rounds, in line n: of the one in hand, and of those behind it
abbrev pub player_rounds_left_notes : Sheet → ℕ → PlayerRoundsLeft → List Noted
player_rounds_left_notes sheet n left = map (InRound n left.round) (round_left_notes left.here) ++ rounds_notes sheet n left.start left.round

-- what is left to tell of the cells of a player's line, line n
abbrev pub cells_left_notes : Sheet → ℕ → CellsLeft → List Noted
cells_left_notes sheet n left = player_rounds_left_notes sheet n left.rounds ++ note_if left.behind (BehindColumn n (last_column sheet))

-- what is left to tell of who a player's line says that it is, line n
abbrev pub person_left_notes : ℕ → PersonLeft → List Noted
person_left_notes n left =
    note_if left.before_name (BeforeName n) ++ (same_notes n Name left.same_name ++ (note_if left.long_name (LongName n)
    ++ (rating_notes n left.rating ++ same_notes n FideNumber left.same_number)))

-- what is left to tell of a player's line, line n
abbrev pub player_left_notes : Sheet → ℕ → PlayerLeft → List Noted
player_left_notes sheet n left = person_left_notes n left.person ++ (note_if left.early (EarlyPoints n) ++ cells_left_notes sheet n left.cells)

-- what is left to tell of line n
abbrev pub left_notes : Sheet → ℕ → Left → List Noted
left_notes sheet n Nothing = []
left_notes sheet n (One note) = noted note ∷ []
left_notes sheet n (Names names alone) = name_notes sheet n (words names.now) alone
left_notes sheet n (Absent names) = absent_notes sheet n (words names.now)
left_notes sheet n (Player left) = player_left_notes sheet n left

-- what is left to tell of the rounds of a report: of the one in hand, and of those behind it
abbrev pub rounds_left_notes : Sheet → RoundsLeft → List Noted
rounds_left_notes sheet left =
    all_some (then_some left.no_game (NoGame left.round) ∷ option_map (Byes left.round) left.byes ∷ []) ++ report_rounds_notes sheet left.round

-- what is left to tell behind the lines of a report: of its rounds, of the next one, of the start ranks, and of the number of rounds
abbrev pub closing_left_notes : Sheet → ClosingLeft → List Noted
closing_left_notes sheet left =
    rounds_left_notes sheet left.rounds ++ ((if left.next_round then nobody_notes sheet else [])
    ++ ((if left.start_ranks then start_ranks_notes sheet else []) ++ (if left.total then total_notes sheet else [])))
