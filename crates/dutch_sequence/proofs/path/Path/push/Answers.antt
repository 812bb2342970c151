use Rattle.std.proofs.Common.{sym, ap, ◌∙◌, not, if◌then◌else◌, ◌==◌}
use Rattle.dutch_sequence.specs.Prelude.{stands_oddly}
use Rattle.dutch_sequence.proofs.MarkLemmas.{oddly-push}
use Rattle.dutch_sequence.proofs.path.Path.push.Goals as goal

pub invariant_of-self : goal.invariant_of-self
invariant_of-self g c = λ i low.
    c.flip.ensures i low
    ∙ ap (λ b. if c.args.number == i then not b else b) (c.self.invariant i low)
    ∙ sym (oddly-push i c.self.inside.places.items c.args.number)
    ∙ ap (stands_oddly i) (sym c.push.ensures.items)
