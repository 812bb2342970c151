-- What the laws of pages name.
pub mod SafeTexts
pub mod Pieces
pub mod Rows
