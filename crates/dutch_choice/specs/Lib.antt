-- What the contracts of dutch_choice name: what a matching of a bracket's players costs, and what it tells of the bracket's shape; the choice
-- in a bracket, wishes, and what a finder finds.
pub mod ShapeCosts
pub mod Mates
pub mod AlwaysShapes
pub mod Starts
pub mod Wishes
pub mod Found
pub mod RuledOut
pub mod Chosen
pub mod Prelude
