-- What the contracts of dutch_weighing name: scales, the weights of qualities, and tables of the weights of pairs.
pub mod Weights
pub mod Classes
pub mod WeightTables
pub mod Prelude
