-- What the contracts of trf16 name, as trf16_report defines it.
pub use Rattle.trf16_report.specs.Prelude
pub use Rattle.trf16_report.specs.declared.limits.TheConstants
