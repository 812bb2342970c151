-- The words that the clauses of dutch_pair name, as the crates below define them.
pub use Rattle.dutch_arrangements.specs.Prelude.{down, IsIn, Spends}
pub use Rattle.dutch_bracket.specs.Brackets.{first_group, is_penultimate, scoregroups}
unfoldable pub use Rattle.dutch_bracket.specs.Brackets.{candidates_of, shape_of}
pub use Rattle.dutch_bracket.specs.ColourFloors.{residents_down}
pub use Rattle.dutch_bracket.specs.Completion.{Completable, IsStopped, MatchAnswer, SpendsAtMost, Takes, most}
pub use Rattle.dutch_bracket.specs.Context.{Context}
pub use Rattle.dutch_bracket.specs.Eligible.{HasCandidate}
pub use Rattle.dutch_bracket.specs.Items.{who_counts}
pub use Rattle.dutch_bracket.specs.NextBracket.{AreLeft, IsNext, IsNoBetter, IsOfBracket, no_value}
unfoldable pub use Rattle.dutch_bracket.specs.NextBracket.{quality}
pub use Rattle.dutch_bracket.specs.Quality.{NextValue, Quality, first_difference}
unfoldable pub use Rattle.dutch_bracket.specs.Quality.{is_better}
pub use Rattle.dutch_bracket.specs.QualityIn.{next_in, quality_in, with_next}
pub use Rattle.dutch_bracket.specs.Reached.{IsAbove, IsOf, Reached, ends_round, frame_of, is_number}
unfoldable pub use Rattle.dutch_bracket.specs.Reached.{number_may_be_left, numbers_meet}
pub use Rattle.dutch_bracket.specs.Seated.{score_at, seat_of}
unfoldable pub use Rattle.dutch_bracket.specs.Seats.{seats_may_be_left, seats_meet}
pub use Rattle.dutch_candidates.specs.Wishes.{grants}
pub use Rattle.dutch_choice.specs.Chosen.{IsChoice}
pub use Rattle.dutch_passes.specs.Remembered.{IsKeptAfter, IsLook, Remembered, is_kept, value_below}
pub use Rattle.dutch_rounds.specs.Barriers.{Barrier, Blocks, has_blockers, label, lacks_bye, opens_odd_group}
pub use Rattle.dutch_rounds.specs.Boards.{boards}
unfoldable pub use Rattle.dutch_rounds.specs.Instead.{IsInstead}
pub use Rattle.dutch_rounds.specs.Lower.{above_lower, lower_of}
pub use Rattle.dutch_rounds.specs.Outcomes.{AreStages, IsBracketAt, IsOutcome, IsStage, IsStoppedIn, TellsCompletion, TellsCompletionAt, bracket_and_shape, visit, visit_of}
pub use Rattle.dutch_rounds.specs.Round.{Pairing, Round, Visit, round}
pub use Rattle.dutch_rounds.specs.Stages.{own_pairs}
