use Rattle.std.proofs.Common.{◌≡◌, Ok, map, ap, sym, ◌∙◌}
use Rattle.std.proofs.lemmas.Result.{err_from_is_err_and}
use Rattle.trf16_report.specs.Prelude.{entry_of, cells_fit, all_cells_fit}
use Rattle.trf16_report.proofs.ReadingLemmas.{Fails-on}
use Rattle.trf16_report.proofs.AnsweringLemmas.{all_cells-more, all_cells-fail, all_cells-end}
use Rattle.trf16_reader.proofs.answering.all_cells_fit.Goals as goal

pub loop-player-preserved : goal.loop-player-preserved
loop-player-preserved c =
    let sheet = c.args.report.now in
    let entry = entry_of c.in-Some.player.now in
    let fit : cells_fit sheet entry.start 1 entry.cells ≡ Ok (tt {0}) = ap (cells_fit sheet entry.start 1) (sym c.deref.ensures.value) ∙ c.in_ok-cells_fit.ensures in
    sym (all_cells-more sheet (map entry_of c.loop-player.player-iterator) entry (map entry_of c.next.new.self) (ap (map entry_of) c.in-Some.ensures.steps) fit)
    ∙ c.loop-player.invariant

pub returns-in_err-cells_fit : goal.returns-in_err-cells_fit
returns-in_err-cells_fit c =
    let p = err_from_is_err_and c.from_residual.result c.from_residual.ensures.1 in
    let sheet = c.args.report.now in
    let entry = entry_of c.in-Some.player.now in
    rw (p.1, p.2) (Fails-on c.in_err-cells_fit.field-0.0 (cells_fit sheet entry.start 1 c.deref.result.now) (all_cells_fit sheet sheet.players)
    (λ fault e. sym c.loop-player.invariant
    ∙ all_cells-fail sheet (map entry_of c.loop-player.player-iterator) entry (map entry_of c.next.new.self) fault (ap (map entry_of) c.in-Some.ensures.steps)
    (ap (cells_fit sheet entry.start 1) (sym c.deref.ensures.value) ∙ e))
    c.in_err-cells_fit.ensures)

pub returns : goal.returns
returns c = sym c.loop-player.invariant ∙ all_cells-end c.args.report.now (map entry_of c.loop-player.player-iterator) (ap (map entry_of) c.in-None.ensures.steps.0)
