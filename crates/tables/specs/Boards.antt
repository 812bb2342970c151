-- The boards of a round as they stand in a report (our own order, which is that of the boards of a round that is paired).
use Rattle.std.specs.Prelude.{ℕ, ◌+◌, ◌-◌, Bool, true, false, ◌&&◌, ◌||◌, ◌==◌, nat_lt, if◌then◌else◌, List, map, Option, Some, None, option_and_then}
use Rattle.std.specs.List.{filter_map}
use Rattle.std.specs.declared.cmp.Ordering.{Ordering}
use Rattle.std.specs.Ordering.{bool_cmp, nat_cmp, ordering_then, is_lt}
use Rattle.trf16_report.specs.declared.cell.Bye.TheVariants.{Allocated}
use Rattle.trf16_report.specs.declared.cell.Cell.{Cell}
use Rattle.trf16_report.specs.declared.cell.Cell.TheVariants.{Bye}
use Rattle.trf16_report.specs.declared.cell.Colour.{Colour}
use Rattle.trf16_report.specs.declared.cell.Colour.TheVariants.{White, Black}
use Rattle.trf16_report.specs.Prelude.{Sheet, cell_in, colour_in_cell, opponent_in_cell, points_upto, ranked_by}
use Rattle.tables.specs.declared.board.RankedBoard.{RankedBoard}

-- the colour of the higher ranked of two by what both cells say: White is whose cell alone says w, else whose opponent's cell alone says b,
-- else the higher ranked [own]
abbrev pub colour_by : Option Colour → Option Colour → Colour
colour_by (Some Black) (Some Black) = White
colour_by (Some Black) other = Black
colour_by None (Some White) = Black
colour_by own other = White

-- white and black, where the higher ranked of two players has a colour
abbrev pub with_colour : ℕ → ℕ → Colour → ℕ × ℕ
with_colour high low White = (high, low)
with_colour high low Black = (low, high)

-- the order of two boards: two players go before a bye, then the higher score of the higher ranked player, then the higher sum of both
-- scores, then the smaller start rank of that player [own]
abbrev pub place_cmp : RankedBoard → RankedBoard → Ordering
place_cmp a b =
    ordering_then (bool_cmp a.has_bye b.has_bye)
    (ordering_then (nat_cmp b.score a.score) (ordering_then (nat_cmp b.both_scores a.both_scores) (nat_cmp a.start b.start)))

-- which of two boards stands in front of the other
abbrev pub board_goes_before : RankedBoard → RankedBoard → Bool
board_goes_before a b = is_lt (place_cmp a b)

module _ (sheet : Sheet) (round : ℕ) where
  -- the score of a player before the round, in half points [with ranks_above]
  abbrev pub score_before : ℕ → ℕ
  score_before start = points_upto sheet start (round - 1)

  -- whether one player ranks higher than another before the round: by a higher score, then by a smaller start rank [A.2]
  abbrev pub ranks_above : ℕ → ℕ → Bool
  ranks_above a b = nat_lt (score_before b) (score_before a) || ((score_before a == score_before b) && nat_lt a b)

  -- the colour that a player's cell of the round says
  abbrev pub colour_in : ℕ → Option Colour
  colour_in start = colour_in_cell (cell_in sheet start round)

  -- the board of two players, the higher ranked first
  unfoldable pub board_of_two : ℕ → ℕ → RankedBoard
  board_of_two high low = record {
    board = with_colour high low (colour_by (colour_in high) (colour_in low));
    has_bye = false;
    score = score_before high;
    both_scores = score_before high + score_before low;
    start = high;
  }

  -- the board of a player who has the bye: nobody has black
  unfoldable pub board_of_bye : ℕ → RankedBoard
  board_of_bye start = record {
    board = (start, 0);
    has_bye = true;
    score = score_before start;
    both_scores = score_before start;
    start = start;
  }

  -- the board of a player with a cell who has the bye, or who is the higher ranked of two; each pair so has one
  abbrev pub board_by : ℕ → Cell → Option RankedBoard
  board_by start (Bye Allocated) = Some (board_of_bye start)
  board_by start cell =
      option_and_then (λ opponent. if ranks_above start opponent then Some (board_of_two start opponent) else None) (opponent_in_cell cell)

  -- the board of a player by their cell of the round: that of the two, told of the higher ranked; of who has U, with 0 for black; else none
  -- [TRF16, columns 92 to 99; own]
  abbrev pub board_at : ℕ → Option RankedBoard
  board_at start = board_by start (cell_in sheet start round)

  -- the boards of the round in the order of the players' lines
  abbrev pub boards_unordered : List RankedBoard
  boards_unordered = filter_map (λ entry. board_at entry.start) sheet.players

  -- the boards of the round in their order: white and black, and 0 where white has the bye [own]
  abbrev pub boards_of : List (ℕ × ℕ)
  boards_of = map (λ ranked. ranked.board) (ranked_by board_goes_before boards_unordered)
