-- What the contracts of tiebreak name, as tables defines it.
pub use Rattle.tables.specs.Prelude
