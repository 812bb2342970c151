pub mod RoundLemmas
pub mod OrderLemmas
pub mod SameGames
