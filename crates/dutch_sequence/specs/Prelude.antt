-- The words of dutch_sequence by one name: for its proofs, and for the crates above.
pub use Rattle.dutch_sequence.specs.Choices.{all_meet, from_on, is_member, is_same, numbers_from, subsets, tuples, without, left_of, joined, GoesOn}
pub use Rattle.dutch_sequence.specs.Keys.{Ascends, HasEachOnce, IsIn, higher_first, lower_first, put, sorted}
pub use Rattle.dutch_sequence.specs.Trials.{Event, Plan, entry, hits, lower, lowest, trials}
unfoldable pub use Rattle.dutch_sequence.specs.Trials.{after, ahead, below}
pub use Rattle.dutch_sequence.specs.Steps.{Ahead, MatchDrawn, MatchFound, MatchProgress, MatchStep, Passes, SetsAhead, Spends, TuplesAhead, way}
unfoldable pub use Rattle.dutch_sequence.specs.Marks.{has_mark}
pub use Rattle.dutch_sequence.specs.Marks.{stands_oddly}
pub use Rattle.dutch_sequence.specs.Descents.{IsOpen, IsPast, IsSpent, Stands, Walked, beyond_all, free_moves}
pub use Rattle.dutch_sequence.specs.Hints.{first_hint, hint_after, hinted, number_or}
pub use Rattle.dutch_sequence.specs.Transposition.{all_tuples, beginnings_below, short_beginnings, transpositions}
pub use Rattle.dutch_sequence.specs.Halves.{two_halves}
unfoldable pub use Rattle.dutch_sequence.specs.Halves.{half_start, half_stop}
pub use Rattle.dutch_sequence.specs.Limbo.{IsNonAscending, limbo_exchanges, score_of, scores_of}
unfoldable pub use Rattle.dutch_sequence.specs.Limbo.{limbo_cmp}
pub use Rattle.dutch_sequence.specs.Exchange.{exchanges, highest_out, moved_count, moved_in, moved_out, sum_difference, sum_of}
unfoldable pub use Rattle.dutch_sequence.specs.Exchange.{exchange_cmp}
pub use Rattle.dutch_sequence.specs.Exchanged.{IsExchange, ExchangeClass}
pub use Rattle.dutch_sequence.specs.Stages.{IsKnown, IsOfStage, IsOwn, IsSearchState, barred_numbers, class_from, exchange_difference, exchange_path, exchange_plan, fixed_numbers, following, free_moves_from, greatest_difference, held_numbers, in_places, is_fixed, is_next, kept_of, exchange_class, least_difference, most_exchanged, out_places, run, set_of, sets_from, stages_of, total, trials_from, value_of}
unfoldable pub use Rattle.dutch_sequence.specs.Stages.{beyond_reach, greatest_at, in_limit, least_at, out_limit, sets_ahead, sets_of_sizes, sets_of_stages, stage_left, stage_sets, stages_ahead, stages_of_sizes, trials_ahead, trials_of_sizes, trials_of_stages, within_reach}
pub use Rattle.dutch_sequence.specs.Sides.{count_of}
pub use Rattle.dutch_sequence.specs.TranspositionSearch.{numbers_at, place_in, places_in, transposition_plan}
pub use Rattle.dutch_sequence.specs.LimboSearch.{front_with, leader, leaders, limbo_path, limbo_plan, numbers_of, places_of, same_ahead, second_numbers}
unfoldable pub use Rattle.dutch_sequence.specs.LimboSearch.{leads, mirrors}
