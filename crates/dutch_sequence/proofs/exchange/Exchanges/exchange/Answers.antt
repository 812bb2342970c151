use Rattle.std.proofs.Common.{ap, ◌∙◌}
use Rattle.dutch_sequence.specs.Prelude.{SetsAhead, class_from}
use Rattle.dutch_sequence.proofs.exchange.Exchanges.exchange.Goals as goal

pub returns : goal.returns
returns c =
    c.exchange_at.ensures ∙ ap (λ pool. class_from pool c.self.inside.k c.self.inside.state) c.deref.ensures.0 ∙ ap (λ (v : SetsAhead). v.exchange) c.self.view_is
