-- A number is in each S1R of a class, if one without it has too great a sum.
use Rattle.std.proofs.Common.{sym, ap, ◌∙◌, arith}
use Rattle.dutch_sequence.specs.Prelude.{is_member}
use Rattle.dutch_choice.proofs.ExchangeClasses.{always_in}
use Rattle.dutch_choice.proofs.ruled_out.is_always_in.Goals as goal

pub returns-then-difference-from : goal.returns-then-difference-from
returns-then-difference-from c = λ found s1r is.
    let others = sym c.others.ensures ∙ c.in-Some.ensures.cases.0 in
    let within = ap (is_member c.args.number) (sym c.original.ensures) ∙ sym c.contains.ensures.value ∙ found in
    always_in c.args.exchange.now c.in-Some.first.now c.args.number c.in-Some.field-0-1.now others within
    (omega (arith, c.if-difference-from.true, c.difference.ensures, c.from.ensures, c.saturating_sub.ensures)) s1r is
