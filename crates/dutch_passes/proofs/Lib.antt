pub mod TargetLemmas
pub mod BeginLemmas
pub mod IncumbentLemmas
pub mod KeptValues
pub mod NextOfAll
pub mod SkippedLemmas
