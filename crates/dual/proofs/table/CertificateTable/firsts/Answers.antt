-- One player more has a first.
use Rattle.std.proofs.Common.{◌≡◌, ◌<◌, ℕ, List, arith, get_or, length}
use Rattle.std.proofs.Math.ListN.{length-set}
use Rattle.dual.specs.Prelude.{HasFirst}
use Rattle.dual.proofs.ClassLemmas.{all_at, firsts_more}
use Rattle.dual.proofs.table.CertificateTable.firsts.Goals as goal

pub loop-v-preserved : goal.loop-v-preserved
loop-v-preserved g c =
    let players : List ℕ = c.args.pool.now.players.now in
    let firsts : List ℕ = c.loop-v.firsts.items in
    let i : ℕ = c.loop-v.v-index in
    let v : ℕ = get_or players i 0 in
    let within : v < c.args.size = c.requires.below i 0 c.loop-v-test.true in
    let below : c.first_of.result < c.args.size = c.first_of.ensures.below c.args.size c.requires.below within in
    record {
      size = omega (arith, length-set firsts c.from.result c.first_of.result, c.loop-v.invariant.size);
      so_far = firsts_more (g.R.MatchingRule.knows c.args.pool.now.rule.now) c.args.self.now c.args.classes.now players firsts i c.from.result c.first_of.result
          c.from.ensures (omega (arith, c.from.ensures, within, c.loop-v.invariant.size)) c.first_of.ensures.known
          (omega (arith, below, c.loop-v.invariant.size)) c.first_of.ensures.alike c.loop-v.invariant.so_far;
    }

pub returns-clause-firsts : goal.returns-clause-firsts
returns-clause-firsts g c =
    all_at (HasFirst (g.R.MatchingRule.knows c.args.pool.now.rule.now) c.args.self.now c.args.classes.now c.loop-v.firsts.items) c.args.pool.now.players.now
    (λ k lt. c.loop-v.invariant.so_far k (omega (arith, lt, c.loop-v-test.false)))
