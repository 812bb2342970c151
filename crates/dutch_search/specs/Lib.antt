-- What the contracts of dutch_search name: floors of both kinds for a pass.
pub mod Searching
pub mod Skips
pub mod Prelude
