-- A value that is kept is that of the downfloaters.
use Rattle.std.proofs.Common.{refl, sym, subst}
use Rattle.dutch_bracket.specs.Prelude.{quality_in, next_in}
use Rattle.dutch_passes.specs.Prelude.{AreValues}
use Rattle.dutch_passes.proofs.KeptValues.{promoted_values, recalls}
use Rattle.dutch_passes.proofs.remembered.LookAhead.put_kept.Goals as goal

pub invariant_of-self : goal.invariant_of-self
invariant_of-self c =
    let self = c.self.inside in
    subst (AreValues self.field.now self.reached.now self.next.now) (sym c.put_remembered.ensures.kept)
    (promoted_values c.args.down.now self.field.now self.reached.now self.next.now self.values c.self.invariant self.is_short)

pub returns : goal.returns
returns c =
    let self = c.self.inside in
    recalls c.args.down.now self.field.now self.reached.now self.next.now self.values c.self.invariant self.is_short c.args.down.now.items c.put_remembered.result
    (next_in (quality_in c.put_remembered.new.quality)) c.put_remembered.new.values c.args.self.now refl c.put_remembered.ensures.put c.put_remembered.ensures.kept c.self.view_is
