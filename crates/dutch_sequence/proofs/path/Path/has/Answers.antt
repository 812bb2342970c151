use Rattle.std.proofs.Common.{◌≡◌, ◌∙◌, eqb, subst}
use Rattle.std.specs.List.{list_any}
use Rattle.dutch_sequence.specs.Prelude.{HasEachOnce}
use Rattle.dutch_sequence.proofs.MarkLemmas.{oddly-once}
use Rattle.dutch_sequence.proofs.path.Path.has.Goals as goal

pub returns : goal.returns
returns g c =
    subst (λ path. HasEachOnce path → c.has_mark.result ≡ list_any (eqb c.args.number) path) c.self.view_is
    (λ once. c.has_mark.ensures ∙ c.self.invariant c.args.number c.requires.low ∙ oddly-once c.args.number c.self.inside.places.items once)
    c.requires.once
