-- What the contracts of entries name: which words are entries, and what becomes of a report with them.
pub mod Words
pub mod Games
pub mod NewCells
pub mod Entered
pub mod Outcomes
pub mod Steps
pub mod Prelude
