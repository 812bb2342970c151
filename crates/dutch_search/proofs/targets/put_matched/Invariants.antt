-- There was room for all who were put.
use Rattle.std.proofs.Common.{◌+◌, ◌≤◌}
use Rattle.arrayvec.specs.ArrayVec.{array_vec_len}
use Rattle.dutch_sequence.specs.declared.numbers.TheConstants.{LIMIT}
use Rattle.dutch_search.proofs.targets.put_matched.Given as goal

abbrev pub invariant-loop-pair : goal.invariant-loop-pair
invariant-loop-pair l = array_vec_len l.seated-inside.pairs + array_vec_len l.seated-inside.down ≤ LIMIT
