pub mod BarsBehind
pub mod FloorsOfPass
pub mod PassesTwice
pub mod NextAtAll
