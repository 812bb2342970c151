-- The words of trf16_report by one name: for its proofs, and for the crates above.
pub use Rattle.trf16_report.specs.Devices.{CountsFailure, CountsOne, calls_of, failures_of, inner_of}
pub use Rattle.trf16_report.specs.Output.{HasFailed, HasNotFailed, HasPart, HasText, Puts, Use, use_of}
pub use Rattle.trf16_report.specs.Lines.{columns, ends_line, goes_on, is_blank, joined, lines, onto_first, text, without_marks}
pub use Rattle.trf16_report.specs.Fields.{half_after, is_number, number_after, number_in, number_of, points_after, points_in, points_of, trimmed, without_blanks, without_first, without_last, words}
pub use Rattle.trf16_report.specs.Cells.{bye_cell, cell_from, cell_of, colour_of, forfeit_cell, game_cell, is_no_colour, mark_in, opponent_in, opponent_of, outcome_of}
pub use Rattle.trf16_report.specs.Outcomes.{Fails, Gives}
pub use Rattle.trf16_report.specs.Extensions.{are_start_ranks, colour_behind, colour_behind_all, colour_in, colour_named, is_kind, is_named, is_word, named_together, names_absent, names_both, positive, rounds_in, words_of}
pub use Rattle.trf16_report.specs.Sheet.{Entry, Sheet, bye_points, carried_in, cell_at, cell_in, cells_of, colour_in_cell, entry_of, game_points, half_points, is_paired, known, last_paired, last_paired_of, opponent_in_cell, outcome_points, points_upto, rounds_played, with_player}
pub use Rattle.trf16_report.specs.Answering.{are_of_one_class, are_opposite, has_other_points, is_forfeit}
unfoldable pub use Rattle.trf16_report.specs.Answering.{cell_fits, cells_fit, pair_fits, player_fits, players_fit, points_fit}
pub use Rattle.trf16_report.specs.Verdict.{carried_line, has_too_many_rounds, is_blank_cell, is_player, is_too_long, names_too_many_rounds, without_players}
unfoldable pub use Rattle.trf16_report.specs.Verdict.{blank_at, blanks_at, cells_at, colour_onto, laid_out, line_onto, lines_onto, player_at, player_onto, points_at, round_at, rounds_at, rounds_onto, sized, start_at, start_number_at, start_ranks_onto, verdict}
pub use Rattle.trf16_report.specs.Meetings.{AnswerEachOther, AreSum, HavePoints, IsAnswered}
pub use Rattle.trf16_report.specs.Absence.{absent, apart, apart_from, first_at, first_of, is_absence, is_named_absent, is_of, some_carried}
pub use Rattle.trf16_report.specs.Places.{is_place}
pub use Rattle.trf16_report.specs.Notes.{Tells, TellsApart, are_marked, begins_with_x, earlier, first_noted, has_start, is_kind_of, is_marked, is_same_kind, noted_first}
pub use Rattle.trf16_report.specs.Unfinished.{first_unfinished, is_unfinished, unfinished, unfinished_of}
pub use Rattle.trf16_report.specs.Written.{blanks, bye_letter, cell_text, colour_letter, left_in, lines_text, meeting_text, outcome_letter, player_text, points_field, points_text, right_in_four, round_text, written}
pub use Rattle.trf16_report.specs.Round.{CanBePaired, cell_by, cell_on, cells_with, entry_with, named_by, with_cell, with_round}
pub use Rattle.trf16_report.specs.BeforeRound.{before_round, cell_back, cells_back, entry_back, line_back, taken_back}
pub use Rattle.trf16_report.specs.Steps.{AllStart, IsStart, behind_end, carried_as, lines_carried, place}
unfoldable pub use Rattle.trf16_report.specs.Steps.{whole_report}
pub use Rattle.trf16_report.specs.StartRanks.{HasOwnStarts, starts_of}
pub use Rattle.trf16_report.specs.Points.{SpellsHalf, SpellsPoints}
pub use Rattle.trf16_report.specs.Names.{name_in, name_of, player_of}
pub use Rattle.trf16_report.specs.Summed.{IsButForPoints, entry_summed, summed}
unfoldable pub use Rattle.trf16_report.specs.Summed.{all_cells_fit, verdict_unsummed}
pub use Rattle.trf16_report.specs.Ranking.{IsRankedBy, NoneBefore, placed_by, ranked_by}
pub use Rattle.trf16_report.specs.Ratings.{goes_before, higher_titles, place_among, rating_of, title_of, titles}
pub use Rattle.trf16_report.specs.Renumbered.{first_unread, names_start_ranks, names_unread, new_start, number_behind, rank_among, renumbered, renumbered_by, renumbered_cell, renumbered_entry, renumbered_line, renumbered_word}
