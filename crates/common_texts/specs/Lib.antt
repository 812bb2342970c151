-- What the contracts of common_texts name: points, names, games and the values of keys as they are printed, and what is said of too few steps.
pub mod Controls
pub mod Texts
pub mod CellTexts
pub mod KeyTexts
pub mod Prelude
