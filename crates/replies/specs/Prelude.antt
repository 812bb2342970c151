-- The words of replies by one name: for its proofs, and for the crates above.
pub use Rattle.replies.specs.Devices.{IsKept, IsUnread, Reading, reading_of}
pub use Rattle.replies.specs.Input.{IsRead, ReadsInput, most_read}
pub use Rattle.replies.specs.RefusalTexts.{excess_text, fault_text, field_text, line_text, memory_text, round_text, tie_text, unread_text}
pub use Rattle.replies.specs.Texts.{accepted_text, not_of_bracket_text, not_reached_text, question_text, read_text, round_not_reached_text, word_text, write_text}
pub use Rattle.replies.specs.Questions.{instead_fault, question_fault}
pub use Rattle.replies.specs.Statuses.{Answer, behind, bracket_undecided, code_of, done, field_refusal, is_output, no_pairing, not_of_bracket, not_reached, out_of_memory, plain, question_refusal, read_fault, refusal, round_not_reached, tie_refusal, unread_refusal, words_refusal}
pub use Rattle.replies.specs.Replies.{answer_of, note_of, text_of}
pub use Rattle.replies.specs.WrittenAnswers.{HasInTurn, HasTextOrPart, IsCut, IsNoteCut, IsNoted, IsOnStandardError, IsPrinted, IsToldWith, IsWritten, IsWrittenTo}
pub use Rattle.replies.specs.NoteTexts.{identity_text, kind_text, line_front, note_text, notes_text, round_front, told_of_kind, unknown_text}
unfoldable pub use Rattle.replies.specs.NoteTexts.{closing_text, front_text, other_kinds, round_note_text}
pub use Rattle.replies.specs.RefusalNoteTexts.{cell_shown, cells_note, cells_text, extension_note, found_note, held_text, kind_or, line_in_bytes, line_note, order_text, points_note, refusal_note, repeated_note, unmarked_note, wanted_text, with_note}
unfoldable pub use Rattle.replies.specs.RefusalNoteTexts.{bytes_text, columns_text, extension_text, front_of_answer, front_of_cell, repeated_text, sums_text, unfinished_text, zero_text}
pub use Rattle.replies.specs.ReportAnswers.{check_answer, format_answer, format_verdict, if_standings, ranked_answer, size_text, with_points, written_answer}
pub use Rattle.replies.specs.StandingsTexts.{rows_text, values_text}
unfoldable pub use Rattle.replies.specs.StandingsTexts.{row_text}
pub use Rattle.replies.specs.Tables.{LabelFacts, gap, labels_text, left, padded_by, padded_label, right, table_text, widest, width, width_in, widths}
pub use Rattle.replies.specs.GameTexts.{games_labels, games_text}
pub use Rattle.replies.specs.WallTexts.{boards_labels, marks_labels, named_boards_text, named_rows_text, opponent_labels, paired_labels, played_boards_text, played_labels, result_labels, rows_labels, values_labels}
unfoldable pub use Rattle.replies.specs.WallTexts.{board_labels, player_labels, row_labels}
pub use Rattle.replies.specs.SheetAnswers.{sheet_answer}
pub use Rattle.replies.specs.StandingsAnswers.{lines_text, rounds_shown, standings_answer, table_answer}
pub use Rattle.replies.specs.EnterAnswers.{enter_answer, entered_answer, entry_options, entry_refusal, entry_text, player_words, round_words}
pub use Rattle.replies.specs.Views.{seen_before, unseen_answer}
