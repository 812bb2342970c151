-- The differences put so far, and those of the pairs to come, make them all.
use Rattle.std.proofs.Common.{◌≡◌, ◌+◌, ◌≤◌, drop, map, filter}
use Rattle.arrayvec.specs.ArrayVec.{array_vec_len}
use Rattle.dutch_bracket.specs.Prelude.{again, placed_all, goes, is_uneven}
use Rattle.dutch_bracket.proofs.floats.put_pairs.Given as goal

abbrev pub invariant-loop-pair : goal.invariant-loop-pair
invariant-loop-pair l = record {
  items : placed_all l.by.items (map (λ floater. floater.by) (again l.past.field.now l.past.float l.past.back (map (goes l.past.field.now l.past.float) (filter (is_uneven l.past.field.now) (drop l.pair-index l.pairs)))))
      ≡ placed_all l.initial.by.items (map (λ floater. floater.by) (again l.past.field.now l.past.float l.past.back (map (goes l.past.field.now l.past.float) (filter (is_uneven l.past.field.now) l.pairs))));
  len : array_vec_len l.by ≤ array_vec_len l.initial.by + l.pair-index;
}
