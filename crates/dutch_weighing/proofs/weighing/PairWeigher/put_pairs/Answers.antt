-- All rows are passed, and with them all places. A pair that is too heavy is one of a row.
use Rattle.std.proofs.Common.{◌≡◌, ℕ, ◌*◌, ◌∙◌, length, ap, subst, arith}
use Rattle.dutch_weighing.specs.Prelude.{TellsPairsUpto, Weighing}
use Rattle.dutch_weighing.proofs.PairPlaces.{inside}
use Rattle.dutch_weighing.proofs.weighing.PairWeigher.put_pairs.Goals as goal

pub returns-clause-told : goal.returns-clause-told
returns-clause-told c =
    let w = c.args.self.now.weigher.now in
    let n = length w.reached.seats in
    let len : c.len-a-end.result ≡ n = c.len-a-end.ensures.value ∙ ap (λ (v : Weighing). length v.reached.seats) c.weigher.view_is in
    let all : c.loop-a.a ≡ n = omega (arith, len, c.loop-a-test.false, c.loop-a.invariant.within) in
    let told = subst (λ (k : ℕ). TellsPairsUpto w c.loop-a.table (n * k)) all c.loop-a.invariant.told in
    λ _. (λ a b d p q. told.0 a b d p q (inside n a b p q), λ a b d p q. told.1 a b d p q (inside n a b p q))

pub returns-then-not-branch-clause-heavy : goal.returns-then-not-branch-clause-heavy
returns-then-not-branch-clause-heavy c = λ _. c.in_ok-put_row.ensures.heavy c.if-not-branch.true
