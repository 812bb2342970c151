use Rattle.std.proofs.Common.{◌+◌, sym, ◌∙◌, get_or}
use Rattle.std.proofs.lemmas.Result.{err_from_is_err_and}
use Rattle.trf16_report.specs.declared.cell.Cell.TheVariants.{Blank}
use Rattle.trf16_report.specs.Prelude.{cell_fits, cells_fit}
use Rattle.trf16_report.proofs.ReadingLemmas.{Fails-on}
use Rattle.trf16_report.proofs.AnsweringLemmas.{cells-more, cells-fail, cells-end}
use Rattle.trf16_reader.proofs.answering.cells_fit.Goals as goal

pub returns-in_err-cell_fits : goal.returns-in_err-cell_fits
returns-in_err-cell_fits c =
    let p = err_from_is_err_and c.from_residual.result c.from_residual.ensures.1 in
    let sheet = c.args.report.now in
    let cells = c.args.cells.now in
    let i = c.loop-i.i in
    rw (p.1, p.2) (Fails-on c.in_err-cell_fits.field-0.0 (cell_fits sheet c.args.player (i + 1) (get_or cells i Blank)) (cells_fit sheet c.args.player 1 cells)
    (λ fault e. sym c.loop-i.invariant ∙ cells-fail sheet c.args.player cells i fault c.loop-i-test.true e) c.in_err-cell_fits.ensures)

pub loop-i-preserved : goal.loop-i-preserved
loop-i-preserved c =
    sym (cells-more c.args.report.now c.args.player c.args.cells.now c.loop-i.i c.loop-i-test.true c.in_ok-cell_fits.ensures) ∙ c.loop-i.invariant

pub returns : goal.returns
returns c = sym c.loop-i.invariant ∙ cells-end c.args.report.now c.args.player c.args.cells.now c.loop-i.i c.loop-i-test.false
