-- Two classes that are compared as equal are the same.
use Rattle.std.proofs.Common.{◌∙◌, sym, arith}
use Rattle.dutch_weighing.proofs.SameClasses.{same_class}
use Rattle.dutch_weighing.proofs.weighing.Weigher.first_for.Goals as goal

pub returns-then-eq : goal.returns-then-eq
returns-then-eq c =
    let same = same_class c.class.result c.class-class.result (sym c.eq.ensures ∙ c.if-eq.true) in
    (c.loop-before.invariant.0, (omega (arith, c.loop-before-test.true), sym c.class.ensures ∙ (same ∙ c.class-class.ensures)))
