-- What the contracts of dutch_rounds name: the round, its stages and boards, and what is told of them.
pub mod Round
pub mod Stage
pub mod Lower
pub mod Boards
pub mod Outcomes
pub mod Walk
pub mod Stages
pub mod Everybody
pub mod WaysOut
pub mod DeadEnds
pub mod Barriers
pub mod Instead
pub mod Prelude
