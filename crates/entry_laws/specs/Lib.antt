-- What the laws on entries name.
pub mod Concerned
pub mod Standing
