-- The words of dutch_bracket by one name: for its proofs, and for the crates above.
pub use Rattle.dutch_bracket.specs.Seated.{AllNumbers, AreSeats, IsCandidate, IsPair, Seated, all_pairs, by_seats, difference, difference_down, floats_down, goes, goes_down, goes_up, is_uneven, lowest, lowest_upto, pairs_of, score_at, seat_of}
unfoldable pub use Rattle.dutch_bracket.specs.Seated.{going_down, going_up}
pub use Rattle.dutch_bracket.specs.Shapes.{IsFirst, IsFound, IsGreater, down_from, first_with, fits, greatest_shape, has_member, shapes, shapes_upto, shapes_with}
pub use Rattle.dutch_bracket.specs.Quality.{NextValue, Quality, again, all_items, by_list, by_number, compared_in, count_in_pairs, count_of_both, count_with_topscorers, differences, differs, first_difference, first_that_differs, float_of, has_topscorer, highest_first, is_down, is_float, is_missed, is_strong, is_strong_missed, is_third, is_up, is_wide, misses, one_if, placed, placed_all}
unfoldable pub use Rattle.dutch_bracket.specs.Quality.{count_in, is_better, psd, quality_with}
pub use Rattle.dutch_bracket.specs.QualityIn.{next_in, quality_in, with_next}
unfoldable pub use Rattle.dutch_bracket.specs.QualityIn.{with_floats}
pub use Rattle.dutch_bracket.specs.NextBracket.{AreLeft, HasNoBetter, IsFlat, IsNext, IsNoBetter, IsOfBracket, is_lower, legal_by, legal_in, lowest_list, lowest_list_upto, next_bracket, no_value, psd_in, value_in, value_of_shape}
unfoldable pub use Rattle.dutch_bracket.specs.NextBracket.{quality, value_of}
pub use Rattle.dutch_bracket.specs.NextMatchings.{GoesBelow, IsSmall, JoinsBelow, MayPairBelow, count_below, group_below, number_pairs, players_below, score_below, seat_below, value_below}
pub use Rattle.dutch_bracket.specs.Items.{AreSameIn, DifferFirstIn, IsInFrontIn, article, by_rank, counted, only_if, players_counted, seats_of, those_in_pairs, those_of_both, those_with_topscorers, who_counts}
unfoldable pub use Rattle.dutch_bracket.specs.Items.{those_in}
pub use Rattle.dutch_bracket.specs.Completion.{IsStopped, MatchAnswer, SpendsAtMost, Takes, Tells, Way, all_pairings, can_complete, is_complete, left_out, most, most_of_bye, paired, picks, with_first, with_member}
pub use Rattle.dutch_bracket.specs.CompletionSearch.{Searched, can_cover, can_go, left_over, nobody, some_partner}
pub use Rattle.dutch_bracket.specs.Seats.{costs_nothing, is_seat}
unfoldable pub use Rattle.dutch_bracket.specs.Seats.{seats_may_be_left, seats_meet}
pub use Rattle.dutch_bracket.specs.Meetings.{Meetings, joined, joined_seats, vertices}
pub use Rattle.dutch_bracket.specs.Stops.{Decides}
pub use Rattle.dutch_bracket.specs.Reached.{IsAbove, IsOf, Reached, ends_round, frame_of, is_number}
unfoldable pub use Rattle.dutch_bracket.specs.Reached.{number_may_be_left, numbers_meet}
pub use Rattle.dutch_bracket.specs.Context.{Context, IsRead}
pub use Rattle.dutch_bracket.specs.InContext.{FitsHere, can_be_chosen_here, candidates_here, eligible_here, frame_here, group_here, quality_here, shape_here}
pub use Rattle.dutch_bracket.specs.Shaped.{OfEachWithBeginning, candidates_in, eligible_in}
pub use Rattle.dutch_bracket.specs.Choice.{best, best_with, first_unbeaten, is_unbeaten}
pub use Rattle.dutch_bracket.specs.Brackets.{Choice, bracket, can_be_chosen, downfloaters, first_group, is_better_in, is_penultimate, onto_group, scoregroups}
unfoldable pub use Rattle.dutch_bracket.specs.Brackets.{best_of_shape, candidates_of, choice, completable, eligible, quality_of, shape_of}
pub use Rattle.dutch_bracket.specs.Groups.{IsScoregroup, NeighboursDiffer, front_with, group_score}
pub use Rattle.dutch_bracket.specs.SeatLaws.{equal_sym, numbers_meet_sym, seats_meet_sym}
pub use Rattle.dutch_bracket.specs.Eligible.{HasCandidate}
pub use Rattle.dutch_bracket.specs.Beginnings.{HasFewPairs, HasPairsOf, LacksEndOfS2r, fixed, fixed_lists, free, has_s1, in_both, is_of_shape, lists_by, most_served, seated_so}
pub use Rattle.dutch_bracket.specs.ColourFloors.{adds_top, beyond, collide, is_firm, more_missed, more_missed_strong, pool, residents_down, rest_of_s1r, surplus, surplus_firm, wants, wants_firmly}
unfoldable pub use Rattle.dutch_bracket.specs.ColourFloors.{lonely, lonely_first, lonely_second, suits}
pub use Rattle.dutch_bracket.specs.PsdFloors.{IsUniform, floor_psd, is_uniform, repeated}
unfoldable pub use Rattle.dutch_bracket.specs.PsdFloors.{psd_with}
pub use Rattle.dutch_bracket.specs.Floors.{IsFloor, NotBelow, floor_with}
unfoldable pub use Rattle.dutch_bracket.specs.Floors.{floor_over}
pub use Rattle.dutch_bracket.specs.NextByCounts.{IsNotBetter, floor_below, pairs_by_counts, scores_down}
unfoldable pub use Rattle.dutch_bracket.specs.BitTables.{has_bit}
