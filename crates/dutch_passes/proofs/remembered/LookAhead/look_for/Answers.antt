-- A value that was looked for is kept, or memory was refused.
use Rattle.std.proofs.Common.{◌≤◌, length, sym, ap, ◌∙◌, subst}
use Rattle.dutch_sequence.specs.declared.numbers.TheConstants.{LIMIT}
use Rattle.dutch_bracket.specs.Prelude.{AreLeft}
use Rattle.dutch_passes.specs.Prelude.{value_below}
use Rattle.dutch_passes.proofs.KeptValues.{few_left, list_used, values_after}
use Rattle.dutch_passes.proofs.remembered.LookAhead.look_for.Goals as goal

pub copied-key-requires : goal.copied-key-requires
copied-key-requires c =
    let self = c.self.inside in
    subst (λ xs. length xs ≤ LIMIT) (sym c.deref-3.ensures.0)
    (few_left self.field.now self.reached.now self.next.now c.args.down.now.items self.values c.self.invariant (subst (λ r. AreLeft r.reached c.args.down.now.items) (sym c.self.view_is) c.requires.down))

pub invariant_of-self : goal.invariant_of-self
invariant_of-self c =
    let self = c.self.inside in
    values_after c.copied-key.result self.field.now self.reached.now self.next.now self.values c.self.invariant self.is_short c.in_ok-value.value c.keep.new.values c.keep.new.is_short
    (c.in_ok-value.ensures.answer ∙ ap (value_below self.field.now self.reached.now self.next.now) (c.deref.ensures.0 ∙ sym c.deref-3.ensures.0 ∙ sym c.copied-key.ensures)) c.keep.ensures

pub returns-clause-kept : goal.returns-clause-kept
returns-clause-kept c =
    let self = c.self.inside in
    list_used c.copied-key.result self.field.now self.reached.now self.next.now self.values c.self.invariant self.is_short c.in_ok-value.value c.keep.new.values c.keep.new.is_short c.args.down.now.items
    c.args.self.now (c.copied-key.ensures ∙ c.deref-3.ensures.0) c.self.view_is c.requires.unknown c.keep.ensures
