-- No vertex so far has the mark.
use Rattle.std.proofs.Common.{◌≡◌, ◌≢◌, ◌<◌, ℕ, Some}
use Rattle.std.specs.List.{slice_get}
use Rattle.matching.proofs.forest.Forest.first.Given as goal

abbrev pub invariant-loop-v : goal.invariant-loop-v
invariant-loop-v l = record {
  end : l.v-end ≡ l.self.size;
  none : (k : ℕ) → k < l.v → slice_get l.self.marks.items k ≢ Some l.mark;
}
