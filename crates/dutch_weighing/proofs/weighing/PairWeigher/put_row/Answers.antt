-- The places of a row follow one another, and those of the next row follow them. A pair that is too heavy is one of the row.
use Rattle.std.proofs.Common.{◌≡◌, ◌+◌, ◌*◌, ◌∙◌, length, ap, arith}
use Rattle.dutch_weighing.specs.Prelude.{place_in, Weighing}
use Rattle.dutch_weighing.proofs.PairPlaces.{next_row}
use Rattle.dutch_weighing.proofs.WeighingLemmas.{told_same}
use Rattle.dutch_weighing.proofs.weighing.PairWeigher.put_row.Goals as goal

pub returns-clause-told : goal.returns-clause-told
returns-clause-told c =
    let w = c.args.self.now.weigher.now in
    let n = length w.reached.seats in
    let len : c.len-b-end.result ≡ n = c.len-b-end.ensures.value ∙ ap (λ (v : Weighing). length v.reached.seats) c.weigher.view_is in
    let all : c.loop-b.b ≡ n = omega (arith, len, c.loop-b-test.false, c.loop-b.invariant.within) in
    let end : place_in w c.args.a 1 + c.loop-b.b ≡ n * c.args.a = omega (arith, all, next_row n c.args.a c.requires.number.0) in
    λ _. told_same w c.loop-b.table (place_in w c.args.a 1 + c.loop-b.b) (n * c.args.a) end c.loop-b.invariant.told

pub returns-then-not-branch-clause-heavy : goal.returns-then-not-branch-clause-heavy
returns-then-not-branch-clause-heavy c = λ _. c.in_ok-put_pair.ensures.heavy c.if-not-branch.true
