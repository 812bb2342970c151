-- What the contracts of the crate cite.
pub mod Certificates
