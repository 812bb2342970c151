pub mod FoundLemmas
pub mod InputLemmas
pub mod TableLemmas
