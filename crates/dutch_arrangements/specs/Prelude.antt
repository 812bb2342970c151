-- The words of dutch_arrangements by one name: for its proofs, and for the crates above.
pub use Rattle.dutch_sequence.specs.Choices.{all_meet, from_on, is_member, is_same, numbers_from, subsets, tuples, without, left_of, joined, GoesOn}
pub use Rattle.dutch_sequence.specs.Keys.{Ascends, HasEachOnce, IsIn, higher_first, lower_first, put, sorted}
pub use Rattle.dutch_sequence.specs.Trials.{Event, Plan, entry, hits, lower, lowest, trials}
unfoldable pub use Rattle.dutch_sequence.specs.Trials.{after, ahead, below}
pub use Rattle.dutch_sequence.specs.Steps.{Ahead, MatchDrawn, MatchFound, MatchProgress, MatchStep, Passes, SetsAhead, Spends, TuplesAhead, way}
pub use Rattle.dutch_sequence.specs.Descents.{IsOpen, IsSpent, Stands, Walked, beyond_all, free_moves}
pub use Rattle.dutch_sequence.specs.Hints.{first_hint, hint_after, hinted, number_or}
pub use Rattle.dutch_sequence.specs.Transposition.{all_tuples, beginnings_below, short_beginnings, transpositions}
pub use Rattle.dutch_sequence.specs.Halves.{two_halves}
unfoldable pub use Rattle.dutch_sequence.specs.Halves.{half_start, half_stop}
pub use Rattle.dutch_sequence.specs.Limbo.{IsNonAscending, limbo_exchanges, score_of, scores_of}
unfoldable pub use Rattle.dutch_sequence.specs.Limbo.{limbo_cmp}
pub use Rattle.dutch_sequence.specs.Exchange.{exchanges, highest_out, moved_count, moved_in, moved_out, sum_difference, sum_of}
unfoldable pub use Rattle.dutch_sequence.specs.Exchange.{exchange_cmp}
pub use Rattle.dutch_sequence.specs.Exchanged.{IsExchange, ExchangeClass}
pub use Rattle.dutch_sequence.specs.Stages.{IsKnown, IsOfStage, IsOwn, IsSearchState, barred_numbers, exchange_difference, exchange_path, exchange_plan, fixed_numbers, following, greatest_difference, held_numbers, in_places, is_fixed, is_next, kept_of, exchange_class, least_difference, most_exchanged, out_places, run, set_of, sets_from, stages_of, total, trials_from, value_of}
unfoldable pub use Rattle.dutch_sequence.specs.Stages.{beyond_reach, greatest_at, in_limit, least_at, out_limit, sets_ahead, sets_of_sizes, sets_of_stages, stage_left, stage_sets, stages_ahead, stages_of_sizes, trials_ahead, trials_of_sizes, trials_of_stages, within_reach}
pub use Rattle.dutch_sequence.specs.Sides.{count_of}
pub use Rattle.dutch_sequence.specs.TranspositionSearch.{numbers_at, place_in, places_in, transposition_plan}
pub use Rattle.dutch_sequence.specs.LimboSearch.{front_with, leader, leaders, limbo_path, limbo_plan, numbers_of, places_of, same_ahead, second_numbers}
unfoldable pub use Rattle.dutch_sequence.specs.LimboSearch.{leads, mirrors}
pub use Rattle.dutch_arrangements.specs.Arrangements.{Arrangement, Fits, Frame, IsBracket, arrangements, behind, candidates, down, is_legal, is_same_arrangement, leaves_one, moved_down_scores, paired, players_of, remainder_pairs, residents_of, rest, with_s1r, with_s2, with_s2r}
pub use Rattle.dutch_arrangements.specs.Candidates.{Candidate}
pub use Rattle.dutch_arrangements.specs.Levels.{HasS1r, HasS2, HasS2r, Of, arranged, blocks_from, choices_from, if_own, pairs_meet, s1_blocks, s1r_blocks, s2_blocks, within, without_own}
unfoldable pub use Rattle.dutch_arrangements.specs.Levels.{in_bracket, in_s1, in_s1r, in_s2, may_leave}
pub use Rattle.dutch_arrangements.specs.Listings.{Ends, EndsAtOnce, EndsPast, Gives, GivesPast, Listing, Stops, StopsPast, TellsEnd, candidates_from, leaves_too_many, only_if, still_coming}
unfoldable pub use Rattle.dutch_arrangements.specs.Listings.{AreCandidates}
pub use Rattle.dutch_arrangements.specs.Cursors.{are_different, are_of, arrangement_of, ascends_above, cursor_of, cursor_text, has_syntax, is_among, is_numeral, is_of, is_set_of, is_tuple_of, list_of, list_text, moved_down_of, number_after, number_of, of_bracket, onto_first, parsed, parts}
pub use Rattle.dutch_arrangements.specs.CursorLists.{IsLong, is_short}
pub use Rattle.dutch_arrangements.specs.Prefixes.{Beginning, Begins, BeginsAt, filled, with_list}
pub use Rattle.dutch_arrangements.specs.Past.{IsPassedSet, IsPassedTuple}
pub use Rattle.dutch_arrangements.specs.Forms.{FirstsAscend, HasArrangement, HasOneMore, IsInForm, IsInsertion, IsMovedDown, IsResident, NoneTwice, TakesPair, by_place, pairs_by_number, players_in}
