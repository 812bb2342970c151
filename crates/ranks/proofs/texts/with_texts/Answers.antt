use Rattle.std.proofs.Common.{◌∙◌, ap, map}
use Rattle.std.proofs.lemmas.List.{length-map}
use Rattle.trf16_report.specs.Prelude.{starts_of}
use Rattle.trf16_report.proofs.ReportLemmas.{starts-entries}
use Rattle.ranks.proofs.TextLemmas.{starts_with}
use Rattle.ranks.proofs.texts.with_texts.Goals as goal

pub with_players-requires-clause-same : goal.with_players-requires-clause-same
with_players-requires-clause-same c =
    starts-entries c.in_ok-players.players.entries ∙ ap starts_of c.in_ok-players.ensures.texts
    ∙ starts_with c.args.report.now.players (map (λ text. text.items) c.args.texts.now) (length-map c.args.texts.now (λ text. text.items) ∙ c.requires)
