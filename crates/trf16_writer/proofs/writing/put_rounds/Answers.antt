use Rattle.std.proofs.Common.{◌+◌, drop, get_or, ap}
use Rattle.std.specs.List.{flat_map}
use Rattle.std.proofs.lemmas.Result.{err_from_is_err_and}
use Rattle.std.proofs.lemmas.List.{drop_more}
use Rattle.trf16_report.specs.Prelude.{round_text}
use Rattle.trf16_report.specs.declared.cell.Cell.TheVariants.{Blank}
use Rattle.trf16_report.proofs.OutputLemmas.{put_next, put_fails}
use Rattle.trf16_writer.proofs.writing.put_rounds.Goals as goal

pub returns-in_err-put_round : goal.returns-in_err-put_round
returns-in_err-put_round g c =
    let p = err_from_is_err_and c.from_residual.result c.from_residual.ensures.1 in
    let cells = c.args.cells.now in
    let i = c.loop-cell.cell-index in
    rw p.1 (put_fails (flat_map round_text cells) (flat_map round_text (drop i cells)) (round_text (get_or cells i Blank))
    (flat_map round_text (drop (i + 1) cells)) _ _ _ _ _ _ c.loop-cell.invariant
    (ap (flat_map round_text) (drop_more cells i Blank c.loop-cell-test.true)) c.in_err-put_round.ensures)

pub loop-cell-preserved : goal.loop-cell-preserved
loop-cell-preserved g c =
    let cells = c.args.cells.now in
    let i = c.loop-cell.cell-index in
    put_next (flat_map round_text cells) (flat_map round_text (drop i cells)) (round_text (get_or cells i Blank))
    (flat_map round_text (drop (i + 1) cells)) _ _ _ _ _ _ c.loop-cell.invariant
    (ap (flat_map round_text) (drop_more cells i Blank c.loop-cell-test.true)) c.in_ok-put_round.ensures
