-- The words of entries by one name: for its proofs, and for the crates above.
pub use Rattle.entries.specs.Words.{asked_of, behind_digits, digits_of, entry_in, event_in, event_of, marked_in, meeting_in, result_of, score_in, start_in}
pub use Rattle.entries.specs.Games.{cell_of_game, cell_with, cell_without, other_game, other_outcome, other_side, same_bool, same_bye, same_cell, same_colour, same_colours, same_outcome}
pub use Rattle.entries.specs.NewCells.{cell_after, cell_in_slot, cell_now, is_named, is_put, same_slot}
pub use Rattle.entries.specs.Entered.{asked_cells, cells_by, cells_with_new, is_asked, is_reached, may_be_put, meeting_cells, named_alone, named_cell, own_cells, player_resummed, player_with_new, report_if, report_if_cells_fit, report_resummed, round_of, second_of, with_new}
unfoldable pub use Rattle.entries.specs.Entered.{are_known, are_named_once, cell_by_colour, entered, game_cells, reached_round, with_entries, with_entry, with_new_cell, with_new_cells}
pub use Rattle.entries.specs.Outcomes.{Fails, Gives}
pub use Rattle.entries.specs.Steps.{AreOfRound, AreWithin, IsInReport, IsWithin, player_changed}
