-- The pairs added so far and those of the numbers to come make them all.
use Rattle.std.proofs.Common.{◌≡◌, ◌+◌, ◌++◌, drop}
use Rattle.arrayvec.specs.ArrayVec.{array_vec_len}
use Rattle.dutch_bracket.specs.Prelude.{pairs_of}
use Rattle.dutch_bracket.proofs.seated.push_pairs.Given as goal

abbrev pub invariant-loop-i : goal.invariant-loop-i
invariant-loop-i l = record {
  items : l.pairs.items ++ pairs_of l.seats (drop l.i l.firsts) (drop l.i l.seconds) ≡ l.initial.pairs.items ++ pairs_of l.seats l.firsts l.seconds;
  len : array_vec_len l.pairs ≡ array_vec_len l.initial.pairs + l.i;
}
