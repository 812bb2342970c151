-- Each vertex asked about is a step.
use Rattle.std.proofs.Common.{◌≡◌, ◌≤◌, ◌<◌, ◌+◌}
use Rattle.matching.proofs.forest.Forest.first_alone.Given as goal

abbrev pub invariant-loop-u : goal.invariant-loop-u
invariant-loop-u g l = record {
  end : l.end ≡ l.self.size;
  behind : l.v < l.u;
  inside : l.u ≤ l.self.size;
  steps : l.left + l.u ≡ l.fn.left + l.v + 1;
}
