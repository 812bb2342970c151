-- The count so far and that of the pairs to come make the whole count, which a `u16` holds.
use Rattle.std.proofs.Common.{◌≡◌, ◌+◌, ◌*◌, ◌≤◌, drop}
use Rattle.dutch_bracket.specs.Prelude.{misses, count_with_topscorers}
use Rattle.dutch_bracket.proofs.colours_missed.count_with_topscorers.Given as goal

abbrev pub invariant-loop-pair : goal.invariant-loop-pair
invariant-loop-pair l = record {
  few : l.count ≤ 2 * l.pair-index;
  so_far : l.count + count_with_topscorers l.field (misses l.miss) (drop l.pair-index l.pairs) ≡ count_with_topscorers l.field (misses l.miss) l.pairs;
}
