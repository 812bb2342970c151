-- What the contracts of dutch_weight_floors name: scopes of matchings, and floors by certificates.
pub mod Scopes
pub mod WeightFloors
pub mod Orders
pub mod UnpairedGraphs
pub mod ScopedCosts
pub mod Prelude
