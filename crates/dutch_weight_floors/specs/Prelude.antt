-- The words of dutch_weight_floors by one name: for its proofs, and for the crates above.
pub use Rattle.dutch_weight_floors.specs.Scopes.{Covers, CoversBy, Scope, is_joined, is_within, may_stay, moved_down_standing, resident_standing, standing_of}
pub use Rattle.dutch_weight_floors.specs.WeightFloors.{AreFloors, AreOf, BeginsWith, HasBar, IsBar, IsCheckedFor, IsCheckedIn, IsChoosable, IsFloorFor, IsLeast, IsLeastOf, IsLeastWith, IsMostAdded, IsScaled, IsWeightFloor, KnowsNext, ScopedFloor, Weighed, WeighsNoLess, added_in, bound_behind, is_first, left_known, passed_over, scoped_by, weighed_for, weighing_of, weight_in}
pub use Rattle.dutch_weight_floors.specs.Orders.{AddsNothing, AreAdded, Order, added_for, kept, lesser, more_of, short_of, with_lesser}
pub use Rattle.dutch_weight_floors.specs.UnpairedGraphs.{IsUnpairedGraph, UnpairedGraph, joined, vertices}
pub use Rattle.dutch_weight_floors.specs.ScopedCosts.{DifferByScope, IsFloorBy, IsReached, KeepsPairs, MarkTurned, MeasuresNext, Scoped, TellAlike, TellsSides, WeighAlike, all_numbers, any_seat, are_inside, both_go, both_weigh, bracket_costs, costs_by, costs_in, goes_down, going_weight, is_inside, is_number_below, joins_in, kept_by, least_of, lower_costs, may_meet_below, may_pair_out, next_costs, pair_weight_below, side_in, size_by, stays_in, with_order, without_left}
