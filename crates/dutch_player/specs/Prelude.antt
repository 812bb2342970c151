-- The words of dutch_player by one name: for its proofs, and for the crates above.
pub use Rattle.dutch_player.specs.Preferences.{after_last_two, blacks, difference, for, is_black, is_same, is_white, last_two, mild, other, preference, strong_or_mild, whites}
pub use Rattle.dutch_player.specs.Histories.{bars_bye, colour_played, colours_played, float_between, float_by, float_in, may_bye, opponent_played, opponents, score}
pub use Rattle.dutch_player.specs.Outcomes.{Fails, Gives}
pub use Rattle.dutch_player.specs.Facts.{Facts, IsRanked, SeatFacts, fault_if, goes_before, initial_of, no_seat, seat_at, seats_by_rank, seats_of, total_of, unsupported}
unfoldable pub use Rattle.dutch_player.specs.Facts.{facts_of, seat_of, total_for}
pub use Rattle.dutch_player.specs.Meetings.{are_apart, clash, colours_allow, has_met, have_met, is_absolute, is_kept_from, is_topscorer, may_meet}
pub use Rattle.dutch_player.specs.Colours.{alternate_colour, by, by_history, by_preferences, by_start, by_strength, colour_of_higher, colour_rule, colours, decision_between, decision_of, distance, grade, granted, is_stronger, with_colour}
pub use Rattle.dutch_player.specs.SeatOf.{facts_in}
pub use Rattle.dutch_player.specs.StartRanks.{TellsSeat, has_start, seat_with}
pub use Rattle.dutch_player.specs.Laws.{CountFromOne, Gets, GrantsBoth, IsFieldOf, TellsRule, start_ranks}
