use Rattle.std.proofs.Common.{◌∷◌, []}
use Rattle.std.proofs.lemmas.Result.{err_from_is_err_and}
use Rattle.trf16_report.specs.Prelude.{cell_text}
use Rattle.trf16_report.proofs.OutputLemmas.{put_both, put_neither}
use Rattle.trf16_writer.proofs.writing.put_round.Goals as goal

pub returns-in_err-put_all : goal.returns-in_err-put_all
returns-in_err-put_all g c =
    let p = err_from_is_err_and c.from_residual.result c.from_residual.ensures.1 in
    rw p.1 (put_neither (32 ∷ 32 ∷ []) (cell_text c.args.cell.now) _ _ _ _ c.in_err-put_all.ensures)

pub returns : goal.returns
returns g c = put_both (32 ∷ 32 ∷ []) (cell_text c.args.cell.now) _ _ _ _ _ _ _ c.in_ok-put_all.ensures c.put_cell.ensures
