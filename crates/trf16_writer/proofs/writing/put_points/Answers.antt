use Rattle.std.proofs.Common.{◌∙◌}
use Rattle.std.proofs.lemmas.Result.{err_from_is_err_and}
use Rattle.trf16_report.specs.Prelude.{blanks, points_text}
use Rattle.trf16_report.proofs.OutputLemmas.{put_both, put_neither}
use Rattle.trf16_writer.proofs.WritingLemmas.{points_room}
use Rattle.trf16_writer.proofs.writing.put_points.Goals as goal

pub returns-in_err-put_blanks : goal.returns-in_err-put_blanks
returns-in_err-put_blanks g c =
    let p = err_from_is_err_and c.from_residual.result c.from_residual.ensures.1 in
    let room = points_room c.args.points c.as_bytes-whole.result.now c.saturating_sub.result
    (c.as_bytes-whole.ensures.value ∙ c.format.ensures.text) c.saturating_sub.ensures in
    rw (p.1, ← room) (put_neither (blanks c.saturating_sub.result) (points_text c.args.points) _ _ _ _ c.in_err-put_blanks.ensures)

pub returns : goal.returns
returns g c =
    let room = points_room c.args.points c.as_bytes-whole.result.now c.saturating_sub.result
    (c.as_bytes-whole.ensures.value ∙ c.format.ensures.text) c.saturating_sub.ensures in
    rw (← room) (put_both (blanks c.saturating_sub.result) (points_text c.args.points) _ _ _ _ _ _ _ c.in_ok-put_blanks.ensures c.put_decimal.ensures)
