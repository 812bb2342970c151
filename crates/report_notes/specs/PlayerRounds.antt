-- What of a round of a player looks like a mistake.
use Rattle.std.specs.Prelude.{ℕ, zero, suc, ◌+◌, ◌-◌, Bool, true, false, not, ◌&&◌, ◌==◌, List, [], ◌∷◌, ◌++◌, take, Option, Some, None, option_and_then}
use Rattle.std.specs.Bool.{then_some}
use Rattle.std.specs.List.{filter_map, list_any}
use Rattle.std.specs.Option.{option_map_or}
use Rattle.trf16_report.specs.Prelude.{Sheet, cell_at, cell_in, cells_of, game_points, is_blank_cell, is_named_absent, is_unfinished, outcome_points, rounds_played}
use Rattle.trf16_report.specs.declared.cell.Bye.TheVariants.{Full, Allocated}
use Rattle.trf16_report.specs.declared.cell.Cell.{Cell}
use Rattle.trf16_report.specs.declared.cell.Cell.TheVariants.{Bye, Game, Forfeit, Unfinished}
use Rattle.report_notes.specs.declared.note.RoundNote.{RoundNote}
use Rattle.report_notes.specs.declared.note.RoundNote.TheVariants.{NoResult, MeetsAgain, AnotherBye, HalfPoint, NoPoint, NoCell}

-- ---- lists

-- what is there, of some things that are there or not
abbrev pub all_some : {X : Type 0} → List (Option X) → List X
all_some things = filter_map (λ thing. thing) things

-- what each of some rounds has, one after the other, of which `before` others stand in front
abbrev pub of_rounds : {X : Type 0} → (ℕ → List X) → ℕ → ℕ → List X
of_rounds has before zero = []
of_rounds has before (suc more) = has (before + 1) ++ of_rounds has (before + 1) more

-- of the rounds that were paired, what those behind a given one have
abbrev pub of_rounds_behind : {X : Type 0} → (ℕ → List X) → Sheet → ℕ → List X
of_rounds_behind has sheet before = of_rounds has before (rounds_played sheet - before)

-- ---- a round

-- the cells of the rounds before a given one
abbrev pub cells_before : ℕ → List Cell → List Cell
cells_before round cells = take (round - 1) cells

-- the game of a round has no result [with round_notes]
abbrev pub result_note : List Cell → ℕ → Option RoundNote
result_note cells round = then_some (is_unfinished (cell_at cells round)) NoResult

-- the opponent of a game, with a result or without; a forfeit is none
abbrev pub opponent_of_game : Cell → Option ℕ
opponent_of_game (Game opponent colour rated got) = Some opponent
opponent_of_game (Unfinished opponent colour) = Some opponent
opponent_of_game _ = None

-- a cell is a game against a player
abbrev pub is_game_against : ℕ → Cell → Bool
is_game_against player cell = option_map_or (λ opponent. opponent == player) (opponent_of_game cell) false

-- the game of a round is against a player whom one of an earlier round was against too [with round_notes]
abbrev pub meeting_note : List Cell → ℕ → Option RoundNote
meeting_note cells round =
    option_and_then (λ player. then_some (list_any (is_game_against player) (cells_before round cells)) (MeetsAgain player)) (opponent_of_game (cell_at cells round))

-- U, F, or a forfeit win: behind it C.2 allows no pairing-allocated bye (for F our own choice)
abbrev pub bars_bye : Cell → Bool
bars_bye (Bye Full) = true
bars_bye (Bye Allocated) = true
bars_bye (Forfeit opponent colour won) = won
bars_bye _ = false

-- the pairing-allocated bye
abbrev pub is_allocated : Cell → Bool
is_allocated (Bye Allocated) = true
is_allocated _ = false

-- a round is the pairing-allocated bye, and an earlier one was U, F or a forfeit win [C.2; own]
abbrev pub bye_note : List Cell → ℕ → Option RoundNote
bye_note cells round = then_some (is_allocated (cell_at cells round) && list_any bars_bye (cells_before round cells)) AnotherBye

-- the half points that a game gives in all look too few: less than a point
abbrev pub few_points : ℕ → Option RoundNote
few_points zero = Some NoPoint
few_points (suc zero) = Some HalfPoint
few_points (suc (suc more)) = None

-- a game that was played gives both players together less than a point [with round_notes]
abbrev pub points_note : Sheet → Cell → ℕ → Option RoundNote
points_note sheet (Game opponent colour rated got) round = few_points (outcome_points got + game_points (cell_in sheet opponent round))
points_note sheet _ round = None

-- a cell says something
abbrev pub is_filled : Cell → Bool
is_filled cell = not (is_blank_cell cell)

-- nothing is said of the last round that was paired, though something of an earlier one, and no line XXZ names the player [with
-- round_notes]
abbrev pub cell_note : Sheet → ℕ → List Cell → ℕ → Option RoundNote
cell_note sheet start cells round =
    then_some ((round == rounds_played sheet) && (is_blank_cell (cell_at cells round) && (list_any is_filled (cells_before round cells) && not (is_named_absent sheet start)))) NoCell

-- of a player with a start rank and some cells, what is noted of a round
abbrev pub notes_in : Sheet → ℕ → List Cell → ℕ → List RoundNote
notes_in sheet start cells round =
    all_some (result_note cells round ∷ meeting_note cells round ∷ bye_note cells round ∷ points_note sheet (cell_at cells round) round
    ∷ cell_note sheet start cells round ∷ [])

-- of a player, what is noted of a round [own]
abbrev pub round_notes : Sheet → ℕ → ℕ → List RoundNote
round_notes sheet start round = notes_in sheet start (cells_of sheet.players start) round
