-- What the laws of answers name.
pub mod InsteadLaws
