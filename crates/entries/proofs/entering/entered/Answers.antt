use Rattle.std.proofs.Common.{◌≡◌, Result, refl, sym, ap, subst, ◌∙◌}
use Rattle.trf16_report.specs.Prelude.{Sheet}
use Rattle.entries.specs.Entered.{entered, report_if_cells_fit, report_resummed, with_new}
use Rattle.entries.specs.Outcomes.{Gives}
use Rattle.entries.specs.declared.fault.EntryFault.{EntryFault}
use Rattle.entries.proofs.entering.entered.Goals as goal

pub returns : goal.returns
unfolding entered
returns c =
    let sheet = c.args.report.now in
    let all = c.in_ok-all.all.items in
    let changed : c.in_ok-with_new.with_new ≡ with_new all sheet = c.in_ok-with_new.ensures ∙ ap (λ cells. with_new cells sheet) c.deref.ensures.value in
    let summed : c.in_ok-report_resummed.field-0 ≡ report_resummed (with_new all sheet) = c.in_ok-report_resummed.ensures ∙ ap report_resummed changed in
    let given : entered c.args.options c.args.entries.now sheet ≡ report_if_cells_fit (report_resummed (with_new all sheet)) = rw c.in_ok-all.ensures.given refl in
    subst (λ (made : Result Sheet EntryFault). Gives (λ (found : Sheet). found) c.report_if_cells_fit.result made) (ap report_if_cells_fit summed ∙ sym given) c.report_if_cells_fit.ensures
