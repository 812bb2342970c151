-- What the contracts of dutch_arrangements name: choices and their order, brackets, arrangements and candidates, cursors, and searches.
pub mod Arrangements
pub mod Candidates
pub mod Levels
pub mod Listings
pub mod Cursors
pub mod CursorLists
pub mod Prefixes
pub mod Past
pub mod Forms
pub mod Prelude
