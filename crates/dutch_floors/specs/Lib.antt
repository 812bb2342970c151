-- What the contracts of dutch_floors name: `Behind` what floors promise, the others how they are counted.
pub mod FirstValues
pub mod Behind
pub mod FloorOf
pub mod Outlooks
pub mod KnownPairs
pub mod Missed
