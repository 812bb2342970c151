-- What the contracts of player_lines name: the texts of players and of obstacles.
pub mod PlayerTexts
pub mod Obstacles
