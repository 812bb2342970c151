-- The words of dutch_choice by one name: for its proofs, and for the crates above.
pub use Rattle.dutch_choice.specs.ShapeCosts.{IsShapeFloor, IsTooCheap, alone_cost, any_seat, are_paired_out, are_pair, bye_cost, cost_of, count_all, joined, may_stay, shape_costs, spare_cost, vertices}
pub use Rattle.dutch_choice.specs.Mates.{goes_first, has_mate, mate_at, mate_of, matched_shape, may_leave, numbers_unmated}
pub use Rattle.dutch_choice.specs.AlwaysShapes.{IsAlwaysShape}
pub use Rattle.dutch_choice.specs.Starts.{IsFoundShape, IsLent, ListsHere, StandsAt, StandsBehindFirst}
pub use Rattle.dutch_choice.specs.Wishes.{IsBarred, NoneGrants, SomeGrants, granting, is_better_here, some_grants, with_mdps}
unfoldable pub use Rattle.dutch_choice.specs.Wishes.{best_granting}
pub use Rattle.dutch_choice.specs.Found.{HasItsQuality, IsBest}
unfoldable pub use Rattle.dutch_choice.specs.Found.{best_wished}
pub use Rattle.dutch_choice.specs.RuledOut.{half_pairs, halves_bar, has_one_of, rules_out, s1_bars, s1r_bars}
pub use Rattle.dutch_choice.specs.Chosen.{IsChoice, IsChosenBest}
