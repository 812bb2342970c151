-- The words of dutch_weighing by one name: for its proofs, and for the crates above.
pub use Rattle.dutch_weighing.specs.Weights.{FloatBases, HasDigits, HasFloatBases, HasNoBetterOn, HasSameNextOn, IsAmong, IsNextScale, IsOn, IsOnNext, IsScale, IsScaleFor, IsScaleHere, IsWithin, NextScale, Scale, Weighing, alone_by, count_had, counts, digits, digits_below, digits_with, float_digits, in_base, nobody, numbers, player_digits, weighing, weight_below, weight_of, weight_of_one_down, weight_of_pair, written}
unfoldable pub use Rattle.dutch_weighing.specs.Weights.{weight_above, weight_with}
pub use Rattle.dutch_weighing.specs.WeightTables.{HasAll, HasBelow, HasPairs, IsHeavy, IsNumber, IsNumberBelow, IsThere, IsWritten, PutsBehind, TellsBelow, TellsBelowUpto, TellsDown, TellsDownUpto, TellsEach, TellsEachBelow, TellsPairs, TellsPairsUpto, TellsUpto, alone_weight, down_weight, met_weight, next_weight_of, own_weight, pair_weight, place_in, place_of, score_of, weighed_on}
pub use Rattle.dutch_weighing.specs.Classes.{IsFirstFor, TellsFirsts, TellsFirstsUpto, class_at, class_of, is_absolute_if_any, is_single}
