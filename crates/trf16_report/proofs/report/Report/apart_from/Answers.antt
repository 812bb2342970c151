use Rattle.std.proofs.Common.{sym, ap, ◌∙◌}
use Rattle.std.specs.Prelude.{codes}
use Rattle.trf16_report.specs.Prelude.{is_kind, some_carried}
use Rattle.trf16_report.proofs.ApartLemmas.{nobody_apart}
use Rattle.trf16_report.proofs.report.Report.apart_from.Goals as goal

pub returns-then-not-self : goal.returns-then-not-self
returns-then-not-self c =
    c.new-starts.ensures.items
    ∙ sym (nobody_apart c.args.self.now c.args.start
    (sym (ap (some_carried (is_kind (codes "XXP"))) c.self.view_is) ∙ sym c.self.invariant.5.together ∙ c.if-not-self.true))
