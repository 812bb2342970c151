-- What the contracts of ranks name: places in the standings, and the report with them in its rank columns.
pub mod Ranks
pub mod Texts
pub mod Prelude
