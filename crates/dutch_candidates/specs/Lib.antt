-- What the contracts of dutch_candidates name beside the words of dutch_bracket: wishes.
pub mod Wishes
pub mod NarrowedLaws
