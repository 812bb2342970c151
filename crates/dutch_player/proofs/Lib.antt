pub mod RankLemmas
pub mod LawLemmas
pub mod PresentLemmas
pub mod ColourLemmas
pub mod StartLemmas
