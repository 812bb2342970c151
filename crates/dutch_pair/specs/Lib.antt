-- What the contracts of dutch_pair name, as the crates below define it.
pub mod Prelude
