-- There are no more groups than vertices so far, and no label is above their number.
use Rattle.std.proofs.Common.{◌≡◌, ◌≤◌, vec_len, All}
use Rattle.matching.proofs.forest.Forest.number_bases.Given as goal

abbrev pub invariant-loop-v : goal.invariant-loop-v
invariant-loop-v l = record {
  size : vec_len l.labels ≡ l.self.size;
  few : l.most ≤ l.v;
  within : All (λ label. label ≤ l.most) l.labels.items;
}
