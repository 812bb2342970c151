pub mod InsteadLemmas
pub mod RunLemmas
pub mod AskedLemmas
