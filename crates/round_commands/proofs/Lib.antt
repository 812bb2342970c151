pub mod CandidateLemmas
pub mod PairLemmas
