-- The rows so far are written, and what was kept is kept.
use Rattle.std.proofs.Common.{◌≡◌, ◌*◌, ◌^◌, All, length, take}
use Rattle.dual.specs.Prelude.{AllBear, AreKept, HasSlacks, certificate_in}
use Rattle.dual.proofs.table.CertificateTable.slacks_of.Given as goal

abbrev pub invariant-loop-a : goal.invariant-loop-a
invariant-loop-a g l = record {
  size : length l.slacks ≡ l.size * l.size;
  kept : AreKept (g.R.MatchingRule.costs l.pool.rule.now) (certificate_in l.self) l.pool.players.now l.marks.items l.size l.slacks;
  bear : All (λ u. AllBear (g.R.MatchingRule.costs l.pool.rule.now) (certificate_in l.self) (2 ^ 1024) u l.pool.players.now) (take l.a-index l.pool.players.now);
  told : All (λ u. HasSlacks (g.R.MatchingRule.costs l.pool.rule.now) (certificate_in l.self) u l.pool.players.now (u * l.size) l.slacks) (take l.a-index l.pool.players.now);
}
