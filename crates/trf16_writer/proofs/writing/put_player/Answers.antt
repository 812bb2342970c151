use Rattle.std.proofs.Common.{subst}
use Rattle.std.specs.List.{flat_map}
use Rattle.std.proofs.lemmas.Result.{err_from_is_err_and}
use Rattle.trf16_report.specs.Prelude.{use_of, Puts, entry_of, round_text}
use Rattle.trf16_report.proofs.OutputLemmas.{fails_behind, put_neither, put_both}
use Rattle.trf16_writer.proofs.WritingLemmas.{from_right, from_points, from_left, from_number}
use Rattle.trf16_writer.proofs.writing.put_player.Goals as goal

pub returns-in_err-put_all : goal.returns-in_err-put_all
returns-in_err-put_all g c =
    let p = err_from_is_err_and c.from_residual.result c.from_residual.ensures.1 in
    rw p.1 (put_neither _ (from_number c.args.utf8 (entry_of c.args.player.now)) _ _ _ _ c.in_err-put_all.ensures)

pub returns-in_err-put_number : goal.returns-in_err-put_number
returns-in_err-put_number g c =
    let p = err_from_is_err_and c.from_residual-in_err-put_number.result c.from_residual-in_err-put_number.ensures.1 in
    rw p.1 (fails_behind c.in_ok-put_all.ensures (put_neither _ (from_left c.args.utf8 (entry_of c.args.player.now)) _ _ _ _ c.in_err-put_number.ensures))

pub returns-in_err-put_left : goal.returns-in_err-put_left
returns-in_err-put_left g c =
    let p = err_from_is_err_and c.from_residual-in_err-put_left.result c.from_residual-in_err-put_left.ensures.1 in
    rw p.1 (fails_behind c.in_ok-put_all.ensures (fails_behind c.in_ok-put_number.ensures
    (put_neither _ (from_points c.args.utf8 (entry_of c.args.player.now)) _ _ _ _ c.in_err-put_left.ensures)))

pub returns-in_err-put_points_field : goal.returns-in_err-put_points_field
returns-in_err-put_points_field g c =
    let p = err_from_is_err_and c.from_residual-in_err-put_points_field.result c.from_residual-in_err-put_points_field.ensures.1 in
    rw p.1 (fails_behind c.in_ok-put_all.ensures (fails_behind c.in_ok-put_number.ensures (fails_behind c.in_ok-put_left.ensures
    (put_neither _ (from_right c.args.utf8 (entry_of c.args.player.now)) _ _ _ _ c.in_err-put_points_field.ensures))))

pub returns-in_err-put_left-2 : goal.returns-in_err-put_left-2
returns-in_err-put_left-2 g c =
    let p = err_from_is_err_and c.from_residual-in_err-put_left-2.result c.from_residual-in_err-put_left-2.ensures.1 in
    rw p.1 (fails_behind c.in_ok-put_all.ensures (fails_behind c.in_ok-put_number.ensures (fails_behind c.in_ok-put_left.ensures (fails_behind c.in_ok-put_points_field.ensures
    (put_neither _ (flat_map round_text (entry_of c.args.player.now).cells) _ _ _ _ c.in_err-put_left-2.ensures)))))

pub returns : goal.returns
returns g c =
    put_both _ (from_number c.args.utf8 (entry_of c.args.player.now)) _ _ _ _ _ _ _ c.in_ok-put_all.ensures
    (put_both _ (from_left c.args.utf8 (entry_of c.args.player.now)) _ _ _ _ _ _ _ c.in_ok-put_number.ensures
    (put_both _ (from_points c.args.utf8 (entry_of c.args.player.now)) _ _ _ _ _ _ _ c.in_ok-put_left.ensures
    (put_both _ (from_right c.args.utf8 (entry_of c.args.player.now)) _ _ _ _ _ _ _ c.in_ok-put_points_field.ensures
    (put_both _ _ _ _ _ _ _ _ _ c.in_ok-put_left-2.ensures
    (subst (λ cells. Puts (flat_map round_text cells) (use_of g.W.Sink.held g.W.Sink.failures c.put_left-2.new.w c.put_rounds.new.w) c.put_rounds.result)
    c.deref.ensures.value c.put_rounds.ensures)))))
