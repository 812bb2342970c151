-- The seats added so far and those of the numbers to come make them all.
use Rattle.std.proofs.Common.{◌≡◌, ◌+◌, ◌++◌, drop, map}
use Rattle.arrayvec.specs.ArrayVec.{array_vec_len}
use Rattle.dutch_bracket.specs.Prelude.{seat_of}
use Rattle.dutch_bracket.proofs.seated.push_seats.Given as goal

abbrev pub invariant-loop-number : goal.invariant-loop-number
invariant-loop-number l = record {
  items : l.own.items ++ map (seat_of l.seats) (drop l.number-index l.numbers) ≡ l.initial.own.items ++ map (seat_of l.seats) l.numbers;
  len : array_vec_len l.own ≡ array_vec_len l.initial.own + l.number-index;
}
