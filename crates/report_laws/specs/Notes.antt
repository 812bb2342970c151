-- What a law says of notes and of players, of one line and one round.
use Rattle.std.specs.Prelude.{ℕ, Bool, false, ◌&&◌, ◌==◌}
use Rattle.trf16_report.specs.Prelude.{Entry, cell_at, is_unfinished}
use Rattle.report_notes.specs.Noted.{Noted, InRound}
use Rattle.report_notes.specs.declared.note.RoundNote.TheVariants.{NoResult}

-- a note tells that the game of a round in a line has no result [with lacks_result]
abbrev pub tells_no_result : ℕ → ℕ → Noted → Bool
tells_no_result line round (InRound line' round' NoResult) = (line' == line) && (round' == round)
tells_no_result line round _ = false

-- a player whose line it is has a game without a result in a round [own]
abbrev pub lacks_result : ℕ → ℕ → Entry → Bool
lacks_result line round entry = (entry.line == line) && is_unfinished (cell_at entry.cells round)
