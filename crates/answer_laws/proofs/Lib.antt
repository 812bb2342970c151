pub mod PairedBoards
pub mod ObstacleTruth
pub mod ByeTruth
pub mod DecidedLemmas
pub mod ReasonLemmas
