-- What the contracts of dutch_order name, as dutch_arrangements and dutch_sequence define it.
pub use Rattle.dutch_arrangements.specs.Prelude
pub use Rattle.dutch_sequence.specs.declared.numbers.TheConstants
