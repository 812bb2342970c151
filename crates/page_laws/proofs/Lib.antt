pub mod SafeLemmas
pub mod PieceLemmas
pub mod RowLemmas
