-- What the laws of pairing_laws name of their own: rounds that can be followed by hand, what weights cost, the greatest matchings of a
-- bracket, which candidate stands first, and which brackets two seats share.
pub mod Examples
pub mod Costs
pub mod GreatestMatchings
pub mod Wishes
pub mod SharedBrackets
