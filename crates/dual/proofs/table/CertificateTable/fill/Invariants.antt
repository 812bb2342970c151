-- The pairs so far can bear their potentials, and their slacks are written; nothing else is.
use Rattle.std.proofs.Common.{◌≡◌, ◌+◌, ◌<◌, ◌^◌, ℕ, true, All, get_or, length}
use Rattle.dual.specs.Prelude.{CanBear, slack, certificate_in}
use Rattle.dual.proofs.table.CertificateTable.fill.Given as goal

abbrev pub invariant-loop-v : goal.invariant-loop-v
invariant-loop-v g l = record {
  size : length l.slacks ≡ length l.initial.slacks;
  bear : (k : ℕ) → k < l.v-index → (g.R.MatchingRule.costs l.rule).meets l.row.player (get_or l.mates k 0) ≡ true
      → CanBear (g.R.MatchingRule.costs l.rule) (certificate_in l.self) (2 ^ 1024) l.row.player (get_or l.mates k 0);
  told : (k : ℕ) → k < l.v-index → (g.R.MatchingRule.costs l.rule).meets l.row.player (get_or l.mates k 0) ≡ true
      → get_or l.slacks (l.row.start + get_or l.mates k 0) 0
      ≡ slack (g.R.MatchingRule.costs l.rule) (certificate_in l.self) (l.row.player, get_or l.mates k 0);
  others : (k : ℕ) → All (λ v. ¬ (l.row.start + v ≡ k)) l.mates → get_or l.slacks k 0 ≡ get_or l.initial.slacks k 0;
}
