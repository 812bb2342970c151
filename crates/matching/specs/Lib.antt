-- What the contracts of the crate cite.
pub mod Links
pub mod Matchings
