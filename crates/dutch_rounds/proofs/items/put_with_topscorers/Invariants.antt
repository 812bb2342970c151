-- The seats put so far, and those of the pairs to come, make them all.
use Rattle.std.proofs.Common.{◌≡◌, ◌+◌, ◌*◌, ◌≤◌, drop}
use Rattle.arrayvec.specs.ArrayVec.{array_vec_len}
use Rattle.dutch_bracket.specs.Prelude.{those_with_topscorers, misses, placed_all}
use Rattle.dutch_rounds.proofs.items.put_with_topscorers.Given as goal

abbrev pub invariant-loop-pair : goal.invariant-loop-pair
invariant-loop-pair l = record {
  items : placed_all l.seats.items (those_with_topscorers l.field (misses l.miss) (drop l.pair-index l.pairs)) ≡ placed_all l.initial.seats.items (those_with_topscorers l.field (misses l.miss) l.pairs);
  len : array_vec_len l.seats ≤ array_vec_len l.initial.seats + 2 * l.pair-index;
}
