pub mod PlayerLemmas
