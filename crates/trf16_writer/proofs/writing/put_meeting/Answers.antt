use Rattle.std.proofs.Common.{[], ◌∷◌}
use Rattle.std.specs.Prelude.{decimal}
use Rattle.std.proofs.lemmas.Result.{err_from_is_err_and}
use Rattle.trf16_report.specs.Prelude.{right_in_four, colour_letter}
use Rattle.trf16_report.proofs.OutputLemmas.{put_both, put_neither}
use Rattle.trf16_writer.proofs.writing.put_meeting.Goals as goal

pub returns-in_err-put_number : goal.returns-in_err-put_number
returns-in_err-put_number g c =
    let p = err_from_is_err_and c.from_residual.result c.from_residual.ensures.1 in
    rw p.1 (put_neither (right_in_four (decimal c.args.opponent)) (32 ∷ colour_letter c.args.colour ∷ 32 ∷ c.args.letter ∷ []) _ _ _ _ c.in_err-put_number.ensures)

pub returns : goal.returns
returns g c =
    rw (← c.colour_letter.ensures)
    (put_both (right_in_four (decimal c.args.opponent)) (32 ∷ c.colour_letter.result ∷ 32 ∷ c.args.letter ∷ []) _ _ _ _ _ _ _ c.in_ok-put_number.ensures c.put_all.ensures)
