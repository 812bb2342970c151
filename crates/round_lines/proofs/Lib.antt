pub mod ListingLemmas
pub mod Joined
pub mod PieceLemmas
