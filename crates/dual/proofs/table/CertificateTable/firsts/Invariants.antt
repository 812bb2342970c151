-- The players so far have their firsts.
use Rattle.std.proofs.Common.{◌≡◌, ◌<◌, ℕ, length, get_or}
use Rattle.dual.specs.Prelude.{HasFirst}
use Rattle.dual.proofs.table.CertificateTable.firsts.Given as goal

abbrev pub invariant-loop-v : goal.invariant-loop-v
invariant-loop-v g l = record {
  size : length l.firsts.items ≡ l.size;
  so_far : (k : ℕ) → k < l.v-index → HasFirst (g.R.MatchingRule.knows l.pool.rule.now) l.self l.classes l.firsts.items (get_or l.pool.players.now k 0);
}
