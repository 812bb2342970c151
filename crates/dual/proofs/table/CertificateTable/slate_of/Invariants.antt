-- The lines so far are written.
use Rattle.std.proofs.Common.{◌≡◌, All, take}
use Rattle.dual.specs.Prelude.{AreTold, IsSlate, certificate_in}
use Rattle.dual.proofs.table.CertificateTable.slate_of.Given as goal

abbrev pub invariant-loop-a : goal.invariant-loop-a
invariant-loop-a g l = record {
  size : l.slate.size ≡ l.size;
  slate : IsSlate (g.R.MatchingRule.costs l.pool.rule.now) (certificate_in l.self) l.size l.slate.slacks l.slate.marks.items;
  told : All (λ u. AreTold (g.R.MatchingRule.costs l.pool.rule.now) l.slate.marks.items l.size u l.pool.players.now) (take l.a-index l.pool.players.now);
}
