-- Those who are left over are few.
use Rattle.std.proofs.Common.{sym, subst}
use Rattle.dutch_bracket.specs.Prelude.{AreLeft}
use Rattle.dutch_passes.proofs.KeptValues.{few_left}
use Rattle.dutch_passes.proofs.remembered.LookAhead.value.Goals as goal

pub copied-key-requires : goal.copied-key-requires
copied-key-requires c =
    let self = c.self.inside in
    few_left self.field.now self.reached.now self.next.now c.args.down.now self.values c.self.invariant (subst (λ r. AreLeft r.reached c.args.down.now) (sym c.self.view_is) c.requires.down)
