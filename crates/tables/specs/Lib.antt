-- What the contracts of tables name: games, keys and standings; the boards of a round, and their order.
pub mod Games
pub mod Keys
pub mod Outcomes
pub mod Standings
pub mod Boards
pub mod Prelude
