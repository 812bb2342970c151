-- The words of dutch_passes by one name: for its proofs, and for the crates above.
pub use Rattle.dutch_passes.specs.Incumbent.{IsIncumbent, incumbent_in, incumbent_lists, wins}
pub use Rattle.dutch_passes.specs.Targets.{target_in, beats, is_pruned, loses, is_near, is_open, is_sought}
unfoldable pub use Rattle.dutch_passes.specs.Targets.{best_near, best_yet}
pub use Rattle.dutch_passes.specs.Remembered.{AreValues, IsKeptAfter, IsLook, IsUsed, LooksBelow, LooksFrom, Recalls, Remembered, after_refusal, after_use, is_kept, is_key, lists_kept, others, value_below, with_used}
pub use Rattle.dutch_passes.specs.NextOfAll.{IsNextOfAll}
pub use Rattle.dutch_passes.specs.Passes.{Draws, IsChosenNext, IsEnd, IsHere, IsLentFor, Loses, LosesIfOpen, ListsFor, LooksFor, LooksThrough, PassesPruned, SeeksTheSame, best_of_pass, is_pruned_by, near_of, wished_of}
