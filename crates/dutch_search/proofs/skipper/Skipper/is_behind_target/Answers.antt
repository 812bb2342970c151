-- The target is better than a candidate that weighs more, and that has a higher PSD or no better value of the next bracket.
use Rattle.std.proofs.Common.{inl, inr, refl, sym, ap, ◌∙◌, option_copied, arith}
use Rattle.dutch_search.proofs.BarsBehind.{behind_target}
use Rattle.dutch_search.proofs.skipper.Skipper.is_behind_target.Goals as goal

pub returns-then-is_above : goal.returns-then-is_above
returns-then-is_above c = λ above a listed begins weighs.
    behind_target c.args.self.now a listed c.args.least weighs c.in-Some.bar c.in-Some-quality.target.now c.in-Some.is
    (sym c.quality.ensures ∙ ap option_copied c.in-Some-quality.is) (c.if-is_passed.ensures.0 refl) (inl (c.if-is_above.ensures.0 refl))

pub returns-else-is_above : goal.returns-else-is_above
returns-else-is_above c = λ none a listed begins weighs.
    behind_target c.args.self.now a listed c.args.least weighs c.in-Some.bar c.in-Some-quality.target.now c.in-Some.is
    (sym c.quality.ensures ∙ ap option_copied c.in-Some-quality.is) (c.if-is_passed.ensures.0 refl)
    (inr (omega (arith, c.if-is_passed.ensures.0 refl), c.knows_next.ensures none a listed begins))
