-- The number is one that weighs too much.
use Rattle.std.proofs.Common.{◌≡◌, ◌+◌, ◌<◌, ◌≤◌, ◌^◌, ◌∙◌, length, ap, arith}
use Rattle.dutch_weighing.specs.Prelude.{down_weight, Weighing}
use Rattle.dutch_weighing.specs.WeightTables.{one_down}
use Rattle.dutch_weighing.proofs.WeighingLemmas.{at_least}
use Rattle.dutch_weighing.proofs.weighing.Weigher.put_down.Goals as goal

pub returns-in-None-clause-heavy : goal.returns-in-None-clause-heavy
returns-in-None-clause-heavy c =
    let w = c.args.self.now in
    let a = c.loop-a.a + 1 in
    let len : c.len-a-end.result ≡ length w.reached.seats =
    c.len-a-end.ensures.value ∙ ap (λ (v : Weighing). length v.reached.seats) c.self.view_is in
    let some : 0 < a = omega arith in
    let within : a ≤ length w.reached.seats = omega (arith, len, c.loop-a-test.true) in
    λ _. one_down a (some, within) (at_least (down_weight w a) (2 ^ 1024) c.in-None.ensures)
