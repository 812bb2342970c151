-- What the rounds that were paired say of a player: score (C.04.3 A.2), floats (A.4), colours (A.6), opponents (C.1), the bye (C.2).
use Rattle.std.specs.Prelude.{ℕ, ◌-◌, Bool, true, false, not, ◌==◌, nat_lt, if◌then◌else◌, List, reverse, take, Option, Some, None, sum_by}
use Rattle.std.specs.List.{filter_map, list_any}
use Rattle.std.specs.Option.{option_map_or}
use Rattle.trf16_report.specs.declared.cell.Colour.{Colour}
use Rattle.trf16_report.specs.declared.cell.Bye.TheVariants.{Full, Allocated}
use Rattle.trf16_report.specs.declared.cell.Cell.{Cell}
use Rattle.trf16_report.specs.declared.cell.Cell.TheVariants.{Bye, Game, Forfeit}
use Rattle.trf16_report.specs.Prelude.{Sheet, half_points, points_upto, cell_at}
use Rattle.dutch_player.specs.declared.float.Float.{Float}
use Rattle.dutch_player.specs.declared.float.Float.TheVariants.{Up, Down}

-- the half points of the rounds that were paired, where the pairing-allocated bye gives so many [A.2]
abbrev pub score : ℕ → List Cell → ℕ
score bye cells = sum_by (half_points bye) cells

-- the colour of a game that was played; that of a forfeit is none [with colours_played]
abbrev pub colour_played : Cell → Option Colour
colour_played (Game opponent colour rated got) = Some colour
colour_played _ = None

-- the colours of the games that were played, the last game first [A.6]
abbrev pub colours_played : List Cell → List Colour
colours_played cells = filter_map colour_played (reverse cells)

-- the opponent of a game that was played; a forfeit is no meeting [with opponents]
abbrev pub opponent_played : Cell → Option ℕ
opponent_played (Game opponent colour rated got) = Some opponent
opponent_played _ = None

-- the start ranks of those whom a player has met in games that were played [C.1]
abbrev pub opponents : List Cell → List ℕ
opponents cells = filter_map opponent_played cells

-- a cell that bars the bye: a pairing-allocated bye, a forfeit win, or a requested bye of a full point, which is our own choice [with may_bye]
abbrev pub bars_bye : Cell → Bool
bars_bye (Bye Full) = true
bars_bye (Bye Allocated) = true
bars_bye (Forfeit opponent colour won) = won
bars_bye _ = false

-- a player may have the pairing-allocated bye: they had no earlier one, no forfeit win, and no requested bye of a full point [C.2;
-- own]
abbrev pub may_bye : List Cell → Bool
may_bye cells = not (list_any bars_bye cells)

-- A.4: down if a player's score is above the opponent's, up if it is below
abbrev pub float_between : ℕ → ℕ → Option Float
float_between mine theirs = if nat_lt theirs mine then Some Down else (if nat_lt mine theirs then Some Up else None)

-- the float of a round with some rounds before it: down if the player's score before it was above the opponent's, up if it was below, else
-- none; without a game that was played, down, also before a late entry [with float_in]
abbrev pub float_by : Sheet → List Cell → ℕ → Cell → Option Float
float_by sheet cells before cell =
    option_map_or (λ opponent. float_between (score sheet.bye (take before cells)) (points_upto sheet opponent before)) (opponent_played cell) (Some Down)

-- the float of a round; before round 1 there is none [A.4; own]
abbrev pub float_in : Sheet → List Cell → ℕ → Option Float
float_in sheet cells round = if round == 0 then None else float_by sheet cells (round - 1) (cell_at cells round)
