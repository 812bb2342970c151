-- A candidate that weighs no less than the incumbent, and that has a higher PSD or no better value of the next bracket, is not better.
use Rattle.std.proofs.Common.{inl, inr, refl, sym, ap, ◌∙◌, option_copied}
use Rattle.dutch_search.proofs.BarsBehind.{behind_incumbent}
use Rattle.dutch_search.proofs.skipper.Skipper.is_behind_incumbent.Goals as goal

pub returns-then-is_above : goal.returns-then-is_above
returns-then-is_above c = λ above a listed begins weighs.
    behind_incumbent c.args.self.now a listed c.args.least weighs c.in-Some.bar c.in-Some-best.best.now c.in-Some.is
    (sym c.best.ensures ∙ ap option_copied c.in-Some-best.is) (inl (c.if-is_above.ensures.0 refl))

pub returns-then-is_reached : goal.returns-then-is_reached
returns-then-is_reached c = λ none a listed begins weighs.
    behind_incumbent c.args.self.now a listed c.args.least weighs c.in-Some.bar c.in-Some-best.best.now c.in-Some.is
    (sym c.best.ensures ∙ ap option_copied c.in-Some-best.is) (inr (c.if-is_reached.ensures.0 refl, c.knows_next.ensures none a listed begins))
