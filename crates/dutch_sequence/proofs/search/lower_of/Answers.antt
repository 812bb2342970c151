use Rattle.std.proofs.Common.{Some, None, ap, sym, ◌∙◌}
use Rattle.dutch_sequence.specs.Prelude.{lower}
use Rattle.dutch_sequence.proofs.search.lower_of.Goals as goal

pub returns-in-None-default : goal.returns-in-None-default
returns-in-None-default c = ap (λ one. lower one c.args.other) (sym c.in-None-default.is-0)

pub returns-in-Some-None : goal.returns-in-Some-None
returns-in-Some-None c =
    c.in-Some-None.is-0
    ∙ ap (λ one. lower one None) (sym c.in-Some-None.is-0)
    ∙ ap (λ other. lower c.args.one other) (sym c.in-Some-None.is-1)

pub returns-in-Some-Some : goal.returns-in-Some-Some
returns-in-Some-Some c =
    ap Some c.min.ensures
    ∙ ap (λ one. lower one (Some c.in-Some-Some.y)) (sym c.in-Some-Some.is-0)
    ∙ ap (λ other. lower c.args.one other) (sym c.in-Some-Some.is-1)
