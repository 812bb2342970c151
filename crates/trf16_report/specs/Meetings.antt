-- What holds of an accepted report, in words of its own: who names whom, and what the points fields are.
use Rattle.std.specs.Prelude.{◌≡◌, ◌⊎◌, ℕ, ◌+◌, ◌<◌, ◌≤◌, true, ◌&&◌, ◌||◌, Some, Contains, IfSome, sum_by, take}
use Rattle.trf16_report.specs.Sheet.{Entry, Sheet, known, cell_in, game_points, half_points, opponent_in_cell, colour_in_cell, rounds_played}
use Rattle.trf16_report.specs.Answering.{are_opposite, is_forfeit, are_of_one_class, has_other_points}

-- a player's opponent in a round is another player of the report, who names that player in that round; their colours are opposite unless
-- both results are forfeits, the results are of one class, and together they have at most 2 half points [own]
pub record IsAnswered (sheet : Sheet) (start round opponent : ℕ) : Type 0 where
  pub player : known sheet opponent ≡ true
  pub another : opponent ≡ start → ⊥
  pub both_ways : opponent_in_cell (cell_in sheet opponent round) ≡ Some start
  pub colours : (are_opposite (colour_in_cell (cell_in sheet start round)) (colour_in_cell (cell_in sheet opponent round))
      || (is_forfeit (cell_in sheet start round) && is_forfeit (cell_in sheet opponent round))) ≡ true
  pub class : are_of_one_class (cell_in sheet start round) (cell_in sheet opponent round) ≡ true
  pub points : game_points (cell_in sheet start round) + game_points (cell_in sheet opponent round) ≤ 2

-- whoever names an opponent in a round is answered by that opponent [with IsAnswered]
abbrev pub AnswerEachOther : Sheet → Type 0
AnswerEachOther sheet = (start round opponent : ℕ) → 0 < round → opponent_in_cell (cell_in sheet start round) ≡ Some opponent → IsAnswered sheet start round opponent

-- points are the sum over the rounds that were paired, or over all, or under 100 points where games have other points [with points_fit]
abbrev pub AreSum : Sheet → Entry → ℕ → Type 0
AreSum sheet entry points = (points ≡ sum_by (half_points sheet.bye) (take (rounds_played sheet) entry.cells))
    ⊎ ((points ≡ sum_by (half_points sheet.bye) entry.cells) ⊎ ((has_other_points sheet ≡ true) × (points < 200)))

-- each points field that is not blank is a sum of its player's points [with points_fit]
abbrev pub HavePoints : Sheet → Type 0
HavePoints sheet = (entry : Entry) → Contains sheet.players entry → IfSome entry.points (AreSum sheet entry)
