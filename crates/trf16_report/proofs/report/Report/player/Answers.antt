use Rattle.std.proofs.Common.{[], ap, ◌∙◌}
use Rattle.std.specs.Option.{option_map_or}
use Rattle.std.specs.Prelude.{option_map}
use Rattle.trf16_report.specs.declared.player.Player.{Player}
use Rattle.trf16_report.specs.Prelude.{player_of, cells_of, entry_of}
use Rattle.trf16_report.proofs.ReportLemmas.{cells-lookup, entry-lookup}
use Rattle.trf16_report.proofs.AnsweringLemmas.{cells-copied, entry-copied}
use Rattle.trf16_report.proofs.report.Report.player.Goals as goal

pub returns-clause-cells : goal.returns-clause-cells
returns-clause-cells c =
    cells-copied c.get.result
    ∙ ap (λ o. option_map_or (λ (p : Player). p.cells.items) o []) c.get.ensures.value
    ∙ cells-lookup c.self.inside.players.entries c.args.start c.self.invariant.0
    ∙ ap (λ sheet. cells_of sheet.players c.args.start) c.self.view_is

pub returns-clause-entry : goal.returns-clause-entry
returns-clause-entry c =
    entry-copied c.get.result
    ∙ ap (option_map entry_of) c.get.ensures.value
    ∙ entry-lookup c.self.inside.players.entries c.args.start c.self.invariant.0
    ∙ ap (λ sheet. player_of sheet.players c.args.start) c.self.view_is
