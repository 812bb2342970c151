pub mod TextLemmas
pub mod RankLemmas
