-- The words of ranks by one name: for its proofs, and for the crates above.
pub use Rattle.ranks.specs.Ranks.{entry_ranked, place_in, rank_text, with_places, with_ranks}
pub use Rattle.ranks.specs.Texts.{entries_with, with_texts}
