-- No label is above the greatest.
use Rattle.std.proofs.Common.{◌≡◌, ◌≤◌, vec_len, All}
use Rattle.matching.proofs.forest.Forest.spread_numbers.Given as goal

abbrev pub invariant-loop-v : goal.invariant-loop-v
invariant-loop-v l = record {
  size : vec_len l.labels ≡ l.self.size;
  within : All (λ label. label ≤ l.most) l.labels.items;
}
