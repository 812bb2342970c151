use Rattle.std.proofs.Common.{◌∷◌, []}
use Rattle.std.proofs.lemmas.Result.{err_from_is_err_and}
use Rattle.trf16_report.specs.Prelude.{entry_of, player_text}
use Rattle.trf16_report.proofs.OutputLemmas.{put_both, put_neither}
use Rattle.trf16_writer.proofs.writing.put_player_line.Goals as goal

pub returns-in_err-put_player : goal.returns-in_err-put_player
returns-in_err-put_player g c =
    let p = err_from_is_err_and c.from_residual.result c.from_residual.ensures.1 in
    rw p.1 (put_neither (player_text c.args.utf8 (entry_of c.args.player.now)) (10 ∷ []) _ _ _ _ c.in_err-put_player.ensures)

pub returns : goal.returns
returns g c =
    put_both (player_text c.args.utf8 (entry_of c.args.player.now)) (10 ∷ []) _ _ _ _ _ _ _ c.in_ok-put_player.ensures c.put_all.ensures
