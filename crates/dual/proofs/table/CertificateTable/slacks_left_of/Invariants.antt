-- The players so far can bear their potentials, and their slacks are written.
use Rattle.std.proofs.Common.{◌≡◌, ◌<◌, ◌^◌, ℕ, true, length, get_or}
use Rattle.dual.specs.Prelude.{CanBearLeft, slack_left, certificate_in}
use Rattle.dual.proofs.table.CertificateTable.slacks_left_of.Given as goal

abbrev pub invariant-loop-v : goal.invariant-loop-v
invariant-loop-v g l = record {
  size : length l.slacks.items ≡ l.size;
  bear : (k : ℕ) → k < l.v-index → (g.R.MatchingRule.costs l.pool.rule.now).may_be_left (get_or l.pool.players.now k 0) ≡ true
      → CanBearLeft (g.R.MatchingRule.costs l.pool.rule.now) (certificate_in l.self) (2 ^ 1024) (get_or l.pool.players.now k 0);
  told : (k : ℕ) → k < l.v-index → (g.R.MatchingRule.costs l.pool.rule.now).may_be_left (get_or l.pool.players.now k 0) ≡ true
      → get_or l.slacks.items (get_or l.pool.players.now k 0) 0
      ≡ slack_left (g.R.MatchingRule.costs l.pool.rule.now) (certificate_in l.self) (get_or l.pool.players.now k 0);
}
