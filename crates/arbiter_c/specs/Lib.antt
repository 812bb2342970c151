-- What the contract of arbiter_run names: what a call says to its words and its report, and the room that it puts this into.
pub mod Said
pub mod Call
