-- The words of dutch_rounds by one name: for its proofs, and for the crates above.
pub use Rattle.dutch_rounds.specs.Round.{Pairing, Round, Visit, brackets, by_choice, ending, everybody, final_bracket, no_pairing, ordinary_bracket, paired_again, pairing_in, passing, penultimate_bracket, round}
pub use Rattle.dutch_rounds.specs.Lower.{above_lower, is_below, lower_of}
pub use Rattle.dutch_rounds.specs.Boards.{AreInOrder, NoneBefore, boards, both_scores, bye_of, higher, pairs_in_order, starts, with_pair}
unfoldable pub use Rattle.dutch_rounds.specs.Boards.{board_of, goes_before, goes_before_by_sum}
pub use Rattle.dutch_rounds.specs.Outcomes.{AreStages, IsBracketAt, IsOutcome, IsStage, IsStoppedIn, TellsCompletion, TellsCompletionAt, bracket_and_shape, visit, visit_at, visit_of}
pub use Rattle.dutch_rounds.specs.Walk.{AreAbove, AreRanked, Goes}
pub use Rattle.dutch_rounds.specs.Stages.{ArePairs, GoesOn, HasEnded, IsBehind, IsFound, IsHalt, IsSettled, IsUnderWay, StandsAt, Starts, TellsUsed, Walk, bye_at, choice_of, group_kind, in_front, is_again, own_pairs, round_by, round_from, stage_first}
pub use Rattle.dutch_rounds.specs.Everybody.{NameEverybodyOnce, is_reached}
pub use Rattle.dutch_rounds.specs.WaysOut.{GoesOut, HasWayOut, StandsBefore}
pub use Rattle.dutch_rounds.specs.DeadEnds.{HasNoPairOf, NoTwoMayMeet, PairOut, moved_down}
pub use Rattle.dutch_rounds.specs.Barriers.{Barrier, Blocks, has_blockers, is_first, label, lacks_bye, opens_odd_group}
unfoldable pub use Rattle.dutch_rounds.specs.Instead.{IsInstead}
