-- The words of dual by one name: for its proofs, and for the crates above.
pub use Rattle.dual.specs.Matchings.{Completable, Costs, Covers, IsMatching, IsPartOf, IsWitness, MakeUp, MayBeLeftOut, beside_times, cost, in_both}
pub use Rattle.dual.specs.Duals.{Bears, BearsLeft, Certificate, GivesEvenly, IsFeasible, Priced, bears, bears_left, gains, losses, most_inside, pairs_of, slack, slack_left, toll, value}
pub use Rattle.dual.specs.Tables.{certificate_in, has_mark, most_toll, most_tolls, potential_in, priced_by, toll_of}
pub use Rattle.dual.specs.Floors.{AreAsBefore, BearsBelow, BearsLeftBelow, FloorTable, IsBelow, IsChecked, IsFloor, IsFloorOf, TellsSlack, TellsSlackLeft, WeighByClass, class_of, is_marked, slack_in, slack_left_in}
pub use Rattle.dual.specs.Checks.{AllBear, AreKept, CanBear, CanBearLeft, HasSlacks, IsKept}
pub use Rattle.dual.specs.Kinds.{AreAlike, AreTold, AreWritten, HasFirst, IsSlate, IsTold, IsWritten, KeepsMarks, StandsFor}
pub use Rattle.dual.specs.Barriers.{IsBarrier, IsTooNarrow, Suits, blockers, group_size, is_of_odd_group, odd_groups, served}
pub use Rattle.dual.specs.Counts.{times, times_named}
pub use Rattle.dual.specs.WideTables.{Extends, IsAt, numbers_at}
unfoldable pub use Rattle.dual.specs.Counts.{StandsAsOften}
