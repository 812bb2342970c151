use Rattle.std.proofs.Common.{◌∷◌, ◌∙◌, ap, arith, get_or, sym}
use Rattle.std.proofs.lemmas.List.{take_rest}
use Rattle.common_texts.specs.Prelude.{without_controls}
use Rattle.common_texts.proofs.ControlLemmas.{free_at_end, shown_more}
use Rattle.common_texts.proofs.controls.without_controls.Goals as goal

pub loop-rest-preserved : goal.loop-rest-preserved
loop-rest-preserved c =
    let rest = c.loop-rest.rest.now in
    let some = c.in-len1-up.len_at_least in
    shown_more c.loop-rest.shown.items c.push.new.self.items c.args.text.now c.first_shown-byte.result.1.now rest c.first_shown-byte.result.0
    (omega (arith, some)) (ap (λ behind. without_controls (get_or rest 0 0 ∷ behind)) (sym (take_rest rest 1)) ∙ c.first_shown-byte.ensures.first)
    c.in_ok-push.ensures.items c.loop-rest.invariant

pub returns-clause-free : goal.returns-clause-free
returns-clause-free c = free_at_end c.loop-rest.shown.items c.args.text.now c.loop-rest.rest.now c.in_default.len_below c.loop-rest.invariant
