use Rattle.std.proofs.Common.{ap, ◌∙◌, not, if◌then◌else◌, ◌==◌}
use Rattle.dutch_sequence.specs.Prelude.{stands_oddly}
use Rattle.dutch_sequence.proofs.MarkLemmas.{oddly-pop}
use Rattle.dutch_sequence.proofs.path.Path.pop.Goals as goal

pub invariant_of-self-2 : goal.invariant_of-self-2
invariant_of-self-2 g c = λ i low.
    c.flip.ensures i low
    ∙ ap (λ b. if c.in_ok-number.number == i then not b else b) (c.self.invariant i low ∙ ap (stands_oddly i) c.in_ok-number.ensures.items)
    ∙ oddly-pop i c.pop.new.self.items c.in_ok-number.number
