-- What the contracts of markup name: escapes, tags, and how elements are written.
pub mod Escapes
pub mod Tags
pub mod Nodes
pub mod Prelude
