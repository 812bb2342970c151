-- The size is above the numbers so far.
use Rattle.std.proofs.Common.{◌<◌, ◌≤◌, ℕ, get_or}
use Rattle.dual.proofs.check.size_for.Given as goal

abbrev pub invariant-loop-v : goal.invariant-loop-v
invariant-loop-v l = record {
  few : l.size ≤ 65536;
  above : (k : ℕ) → k < l.v-index → get_or l.players k 0 < l.size;
}
