-- The words of common_texts by one name: for its proofs, and for the crates above.
pub use Rattle.common_texts.specs.Controls.{holds_control, is_control, is_long_control, shown_byte, without_controls}
unfoldable pub use Rattle.common_texts.specs.Texts.{halves_text}
pub use Rattle.common_texts.specs.Texts.{name_or_dash, undecided_text, undecided_words}
pub use Rattle.common_texts.specs.CellTexts.{game_text, result_mark}
pub use Rattle.common_texts.specs.KeyTexts.{quarter_text, quarters_text, value_text}
