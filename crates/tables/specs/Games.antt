-- The rounds that were paired, seen from one player: their score, whom they met, and whose score a round counts.
use Rattle.std.specs.Prelude.{ℕ, ◌+◌, ◌-◌, Bool, false, ◌==◌, List}
use Rattle.std.specs.List.{list_any, range_with_len}
use Rattle.trf16_report.specs.declared.cell.Cell.{Cell}
use Rattle.trf16_report.specs.declared.cell.Cell.TheVariants.{Game}
use Rattle.trf16_report.specs.Prelude.{Sheet, rounds_played, points_upto, cell_in, half_points}

-- the rounds that were paired, from 1 to the last [tie-breaks]
abbrev pub rounds_of : Sheet → List ℕ
rounds_of sheet = range_with_len 1 (rounds_played sheet)

-- the score in half points, over the rounds that were paired [with rounds_of]
abbrev pub score : Sheet → ℕ → ℕ
score sheet start = points_upto sheet start (rounds_played sheet)

-- a game that was played, against one who is named; a forfeit is none
abbrev pub is_game_with : ℕ → Cell → Bool
is_game_with other (Game opponent colour rated got) = opponent == other
is_game_with other _ = false

-- whether a game between two was played in these rounds; a forfeit is none [tie-breaks]
abbrev pub have_met : Sheet → ℕ → ℕ → Bool
have_met sheet a b = list_any (λ round. is_game_with b (cell_in sheet a round)) (rounds_of sheet)

-- the half points of the virtual opponent in a round without a game: the player's score before the round, what they missed of 2 in it, and
-- 1 for each round behind it [own]
abbrev pub virtual_score : Sheet → ℕ → ℕ → ℕ
virtual_score sheet start round = points_upto sheet start (round - 1) + (2 - half_points sheet.bye (cell_in sheet start round)) + (rounds_played sheet - round)

-- the score that a round with this cell counts: the opponent's as it stands, without adjustment (our own choice), or the virtual
-- opponent's if no game was played
abbrev pub score_met : Sheet → ℕ → ℕ → Cell → ℕ
score_met sheet start round (Game opponent colour rated got) = score sheet opponent
score_met sheet start round _ = virtual_score sheet start round

-- the score of a player's opponent in a round as it stands, without adjustment; in a round without a game that of the virtual opponent
-- [own]
abbrev pub opponent_score : Sheet → ℕ → ℕ → ℕ
opponent_score sheet start round = score_met sheet start round (cell_in sheet start round)
