-- Rounds that can be followed by hand, on which the definitions are tried.
use Rattle.std.specs.Prelude.{ℕ, true, false, List, [], ◌∷◌, Option, Some, None, option_map, map}
use Rattle.trf16_report.specs.declared.cell.Colour.{Colour}
use Rattle.trf16_report.specs.declared.cell.Colour.TheVariants.{White, Black}
use Rattle.dutch_player.specs.declared.float.Float.{Float}
use Rattle.dutch_player.specs.declared.float.Float.TheVariants.{Up, Down}
use Rattle.dutch_player.specs.Prelude.{SeatFacts, Facts}
use Rattle.dutch_arrangements.specs.Prelude.{Arrangement, exchange_cmp, limbo_cmp}
use Rattle.dutch_bracket.specs.declared.reached.BracketKind.TheVariants.{Ordinary}
use Rattle.dutch_bracket.specs.Prelude.{quality, value_of, Reached, numbers_meet, number_may_be_left, Quality, count_in, is_better, psd, quality_with, best_of_shape, bracket, candidates_of, choice, completable, eligible, quality_of, shape_of, seats_meet, seats_may_be_left, going_down, going_up}
use Rattle.dutch_rounds.specs.Prelude.{board_of, boards, goes_before, goes_before_by_sum, round}

-- the boards of a round, if it has a pairing [own]
unfoldable pub boards_of : Facts → Option (List (ℕ × ℕ))
unfolding exchange_cmp limbo_cmp completable candidates_of eligible quality_of best_of_shape shape_of choice numbers_meet number_may_be_left seats_meet seats_may_be_left is_better count_in quality_with quality value_of board_of goes_before goes_before_by_sum psd going_down going_up
boards_of facts = option_map (boards facts) (round facts).pairing

-- the numbers of pairs in the brackets that a round reaches [with boards_of]
abbrev pub pairs_reached : Facts → List ℕ
pairs_reached facts = map (λ visit. visit.shape.pairs) (round facts).reached

-- a player who may have the bye: start rank, score, colours, opponents, and the float in the last round [with boards_of]
abbrev pub player : ℕ → ℕ → List Colour → List ℕ → Option Float → SeatFacts
player start score played opponents latest = record {
  start = start;
  score = score;
  played = played;
  opponents = opponents;
  apart = [];
  latest = latest;
  earlier = None;
  may_bye = true;
}

-- a player who may not, and who played no game
abbrev pub pruned_winner : ℕ → ℕ → SeatFacts
pruned_winner start score = record {
  start = start;
  score = score;
  played = [];
  opponents = [];
  apart = [];
  latest = Some Down;
  earlier = None;
  may_bye = false;
}

-- before a round of some total, white being the initial colour
abbrev pub before : ℕ → ℕ → List SeatFacts → Facts
before round total seats = record { seats = seats; round = round; total = total; initial = White }

-- five players before the first round [with boards_of]
abbrev pub five_players : Facts
five_players =
    before 1 5 (player 1 0 [] [] None ∷ player 2 0 [] [] None ∷ player 3 0 [] [] None ∷ player 4 0 [] [] None ∷ player 5 0 [] [] None ∷ [])

-- one player leads, moves down alone, and meets the one with whom both get their colour [with boards_of]
abbrev pub leader_moves_down : Facts
leader_moves_down =
    before 2 5
    (player 1 2 (White ∷ []) (3 ∷ []) None ∷ player 2 1 (Black ∷ []) (4 ∷ []) None ∷ player 4 1 (White ∷ []) (2 ∷ []) None
    ∷ player 3 0 (Black ∷ []) (1 ∷ []) None ∷ [])

-- the second bracket of `leader_moves_down`: the leader above the two with one half point, who are followed by the last player [own]
abbrev pub leader_above_two : Reached
leader_above_two = bracket 2 Ordinary (0 ∷ []) (1 ∷ 2 ∷ [])

-- in that bracket the leader meets one of the two, by the number of that one [with leader_above_two]
abbrev pub leader_meets : ℕ → Arrangement
leader_meets resident = record { s1 = 1 ∷ []; s2 = resident ∷ []; s1r = []; s2r = [] }

-- the quality of the leader's pair where so many preferences are missed, all of them strong ones [with leader_above_two]
abbrev pub leader_quality : ℕ → Quality
leader_quality missed = record {
  psd = 2 ∷ 1 ∷ [];
  next_pairs = 1;
  next_psd = 1 ∷ [];
  wide_differences = 0;
  third_colours = 0;
  missed_preferences = missed;
  missed_strong = missed;
  down_again = 0;
  up_again = 0;
  down_again_before = 0;
  up_again_before = 0;
  down_again_by = [];
  up_again_by = [];
  down_again_before_by = [];
  up_again_before_by = [];
}

-- two with a full-point bye above two who have met: the first bracket cannot keep its pair [with boards_of]
abbrev pub pair_given_up : Facts
pair_given_up =
    before 2 3
    (pruned_winner 1 2 ∷ pruned_winner 2 2 ∷ player 3 1 (White ∷ []) (4 ∷ []) None ∷ player 4 1 (Black ∷ []) (3 ∷ []) None ∷ [])

-- four players who have all met [with boards_of]
abbrev pub all_met : Facts
all_met =
    before 4 4
    (player 1 3 (White ∷ Black ∷ White ∷ []) (4 ∷ 2 ∷ 3 ∷ []) None ∷ player 2 3 (White ∷ White ∷ Black ∷ []) (3 ∷ 1 ∷ 4 ∷ []) None
    ∷ player 3 3 (Black ∷ White ∷ Black ∷ []) (2 ∷ 4 ∷ 1 ∷ []) None ∷ player 4 3 (Black ∷ Black ∷ White ∷ []) (1 ∷ 3 ∷ 2 ∷ []) None ∷ [])

-- two leaders who both had white twice, before a third round of some total; in the last round they are topscorers [with boards_of]
abbrev pub two_leaders : ℕ → Facts
two_leaders total =
    before 3 total
    (player 1 4 (White ∷ White ∷ []) (5 ∷ 3 ∷ []) (Some Down) ∷ player 2 4 (White ∷ White ∷ []) (6 ∷ 4 ∷ []) (Some Down)
    ∷ player 3 1 (White ∷ Black ∷ []) (4 ∷ 1 ∷ []) None ∷ player 4 1 (Black ∷ Black ∷ []) (3 ∷ 2 ∷ []) None
    ∷ player 5 1 (Black ∷ White ∷ []) (1 ∷ 6 ∷ []) (Some Up) ∷ player 6 1 (Black ∷ Black ∷ []) (2 ∷ 5 ∷ []) (Some Up) ∷ [])

-- three players, of whom the one with a forfeit win has no colour history and cannot have the bye [with boards_of]
abbrev pub forfeit_winner : Facts
forfeit_winner = before 2 5 (player 1 2 (White ∷ []) (5 ∷ []) None ∷ player 2 2 (Black ∷ []) (6 ∷ []) None ∷ pruned_winner 3 2 ∷ [])
