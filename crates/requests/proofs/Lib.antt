pub mod WordLemmas
pub mod KeyLemmas
pub mod KeyRule
pub mod OptionLemmas
pub mod HelpLemmas
pub mod OneCommandLemmas
pub mod RequestLemmas
pub mod EntryWordLemmas
