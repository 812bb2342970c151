-- The pairs so far are written, and no mark is lost.
use Rattle.std.proofs.Common.{◌≡◌, ◌<◌, ℕ, true, get_or}
use Rattle.dual.specs.Prelude.{IsSlate, IsTold, KeepsMarks, certificate_in}
use Rattle.dual.proofs.table.CertificateTable.write_line.Given as goal

abbrev pub invariant-loop-v : goal.invariant-loop-v
invariant-loop-v g l = record {
  size : l.slate.size ≡ l.initial.slate.size;
  slate : IsSlate (g.R.MatchingRule.costs l.pool.rule.now) (certificate_in l.self) l.initial.slate.size l.slate.slacks l.slate.marks.items;
  kept : KeepsMarks l.initial.slate.marks.items l.slate.marks.items;
  told : (k : ℕ) → k < l.v-index → (g.R.MatchingRule.costs l.pool.rule.now).meets l.line.player (get_or l.pool.players.now k 0) ≡ true
      → IsTold l.slate.marks.items l.initial.slate.size l.line.player (get_or l.pool.players.now k 0);
}
