-- What the contracts of dutch_passes name: targets, incumbents, what a pass draws, and remembered values of C.7.
pub mod Incumbent
pub mod Targets
pub mod Remembered
pub mod NextOfAll
pub mod Passes
pub mod Prelude
