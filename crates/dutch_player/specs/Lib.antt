-- What the contracts of dutch_player name: histories, preferences, meetings and colours, and the facts of a round.
pub mod Preferences
pub mod Histories
pub mod Outcomes
pub mod Facts
pub mod Meetings
pub mod Colours
pub mod SeatOf
pub mod StartRanks
pub mod Laws
pub mod Prelude
