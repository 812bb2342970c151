-- The rules on two players who name each other in a round, and on the sum of a player's points (our own choices).
use Rattle.std.specs.Prelude.{ℕ, ◌+◌, Bool, true, false, not, ◌&&◌, ◌||◌, ◌==◌, nat_le, nat_lt, if◌then◌else◌, List, [], ◌∷◌, codes, Option, Some, sum_by, take, Result, Ok, Err}
use Rattle.std.specs.Option.{option_map_or}
use Rattle.trf16_report.specs.Extensions.{is_kind}
use Rattle.trf16_report.specs.Absence.{some_carried}
use Rattle.trf16_report.specs.Sheet.{Entry, Sheet, known, cell_in, game_points, half_points, opponent_in_cell, colour_in_cell, rounds_played}
use Rattle.trf16_report.specs.Outcomes.{◌>>=◌}
use Rattle.trf16_report.specs.declared.cell.Colour.{Colour}
use Rattle.trf16_report.specs.declared.cell.Colour.TheVariants.{White, Black}
use Rattle.trf16_report.specs.declared.cell.Cell.{Cell}
use Rattle.trf16_report.specs.declared.cell.Cell.TheVariants.{Game, Forfeit, Unfinished}
use Rattle.trf16_report.specs.declared.fault.Fault.{Fault}
use Rattle.trf16_report.specs.declared.fault.Fault.TheVariants.{NoSuchOpponent, SelfOpponent, NotMutual, Colours, Results, Points}

-- one had white and the other black
abbrev pub are_opposite : Option Colour → Option Colour → Bool
are_opposite (Some White) (Some Black) = true
are_opposite (Some Black) (Some White) = true
are_opposite _ _ = false

-- a game that was not played
abbrev pub is_forfeit : Cell → Bool
is_forfeit (Forfeit opponent colour won) = true
is_forfeit _ = false

-- the results are of one class: rated games, games that are not rated, forfeits, or games without a result
abbrev pub are_of_one_class : Cell → Cell → Bool
are_of_one_class (Game opponent colour true got) (Game opponent' colour' true got') = true
are_of_one_class (Game opponent colour false got) (Game opponent' colour' false got') = true
are_of_one_class (Forfeit opponent colour won) (Forfeit opponent' colour' won') = true
are_of_one_class (Unfinished opponent colour) (Unfinished opponent' colour') = true
are_of_one_class _ _ = false

-- the cells of two who meet answer each other: opposite colours unless both are forfeits, results of one class, and together at most 2 half
-- points [own]
unfoldable pub pair_fits : ℕ → ℕ → Cell → Cell → Result (Unit {0}) Fault
pair_fits start round mine theirs =
    if not (are_opposite (colour_in_cell mine) (colour_in_cell theirs) || (is_forfeit mine && is_forfeit theirs)) then Err (Colours start round)
    else (if not (are_of_one_class mine theirs && nat_le (game_points mine + game_points theirs) 2) then Err (Results start round) else Ok tt)

-- a cell of a player in a round names another player of the report, who names the first one too [with pair_fits]
unfoldable pub cell_fits : Sheet → ℕ → ℕ → Cell → Result (Unit {0}) Fault
cell_fits sheet start round mine =
    option_map_or (λ opponent.
    if not (known sheet opponent) then Err (NoSuchOpponent start round)
    else (if opponent == start then Err (SelfOpponent start round)
    else (let theirs = cell_in sheet opponent round in
    if not (option_map_or (λ o. o == start) (opponent_in_cell theirs) false) then Err (NotMutual start round)
    else pair_fits start round mine theirs)))
    (opponent_in_cell mine) (Ok tt)

-- the same for the cells of a player from a round on
unfoldable pub cells_fit : Sheet → ℕ → ℕ → List Cell → Result (Unit {0}) Fault
cells_fit sheet start round [] = Ok tt
cells_fit sheet start round (cell ∷ rest) = do
  _ ← cell_fits sheet start round cell
  cells_fit sheet start (round + 1) rest

-- a line XXS says that games have other points [with points_fit]
abbrev pub has_other_points : Sheet → Bool
has_other_points sheet = some_carried (is_kind (codes "XXS")) sheet

-- the points field of a player is blank, or the sum over the rounds that were paired or over all; where games have other points, any value
-- under 100 points [own]
unfoldable pub points_fit : Sheet → Entry → Result (Unit {0}) Fault
points_fit sheet entry =
    option_map_or (λ points.
    if (points == sum_by (half_points sheet.bye) (take (rounds_played sheet) entry.cells)) || (points == sum_by (half_points sheet.bye) entry.cells) || (has_other_points sheet && nat_lt points 200)
    then Ok tt else Err (Points entry.start))
    entry.points (Ok tt)

-- the rounds of a player, and then their points
unfoldable pub player_fits : Sheet → Entry → Result (Unit {0}) Fault
player_fits sheet entry = do
  _ ← cells_fit sheet entry.start 1 entry.cells
  points_fit sheet entry

-- all players, in the order of their lines
unfoldable pub players_fit : Sheet → List Entry → Result (Unit {0}) Fault
players_fit sheet [] = Ok tt
players_fit sheet (entry ∷ rest) = do
  _ ← player_fits sheet entry
  players_fit sheet rest
