-- The words of dutch_search by one name: for its proofs, and for the crates above.
pub use Rattle.dutch_search.specs.Searching.{AreFor, HasWeights}
pub use Rattle.dutch_search.specs.Skips.{HasNoBetterNext, IsBehindTarget, IsBehindIncumbent, OfEach, OfEachHere, OfEachWith, Weighs, context_of, pass_of}
