use Rattle.std.proofs.Common.{ℕ, ◌≡◌, ◌-◌, ◌∙◌, ap, length}
use Rattle.std.proofs.lemmas.Result.{err_from_is_err_and}
use Rattle.trf16_report.specs.Prelude.{columns, blanks}
use Rattle.trf16_report.proofs.OutputLemmas.{put_both, put_neither}
use Rattle.trf16_writer.proofs.writing.put_left.Goals as goal

pub returns-in_err-put_all : goal.returns-in_err-put_all
returns-in_err-put_all g c =
    let p = err_from_is_err_and c.from_residual.result c.from_residual.ensures.1 in
    let others = blanks (c.args.width - length (columns c.args.utf8 c.args.text.now)) in
    rw p.1 (put_neither c.args.text.now others _ _ _ _ c.in_err-put_all.ensures)

pub returns : goal.returns
returns g c =
    let count : c.saturating_sub.result ≡ c.args.width - length (columns c.args.utf8 c.args.text.now) =
    c.saturating_sub.ensures ∙ ap (λ (n : ℕ). c.args.width - n) c.column_count.ensures in
    rw (← count) (put_both c.args.text.now (blanks c.saturating_sub.result) _ _ _ _ _ _ _ c.in_ok-put_all.ensures c.put_blanks.ensures)
