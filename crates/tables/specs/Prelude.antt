-- The words of tables by one name: for its proofs, and for the crates above.
pub use Rattle.tables.specs.Games.{have_met, is_game_with, opponent_score, rounds_of, score, score_met, virtual_score}
pub use Rattle.tables.specs.Keys.{RowFacts, buchholz, direct_in, group_of, have_all_met, is_against, is_level, points_against, points_among, sonneborn_berger, value_of}
pub use Rattle.tables.specs.Outcomes.{Fails, Gives}
pub use Rattle.tables.specs.Standings.{IsRanked, fault_if, no_row, row_at, row_cmp, row_goes_before, row_of, rows_in_order, rows_of, with_key, with_keys, with_value}
unfoldable pub use Rattle.tables.specs.Standings.{has_standings, standings_of}
pub use Rattle.tables.specs.Boards.{board_at, board_by, board_goes_before, boards_of, boards_unordered, colour_by, colour_in, place_cmp, ranks_above, score_before, with_colour}
unfoldable pub use Rattle.tables.specs.Boards.{board_of_bye, board_of_two}
