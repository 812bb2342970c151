-- What the contracts of round_commands name: what is answered to `pair`, `boards` and `candidates`.
pub mod CandidateAnswers
pub mod PairAnswers
pub mod BoardsAnswers
pub mod Known
