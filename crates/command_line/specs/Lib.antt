-- What the contracts of command_line name: why a player does not meet another one, what is answered to a request, and runs.
pub mod OtherBoards
pub mod InsteadAnswers
pub mod ExplainAnswers
pub mod Commands
pub mod Run
pub mod Known
