use Rattle.std.proofs.Common.{map, ap, sym, ◌∙◌}
use Rattle.std.proofs.lemmas.Result.{err_from_is_err_and}
use Rattle.trf16_report.specs.Prelude.{entry_of, player_fits, players_fit}
use Rattle.trf16_report.proofs.ReadingLemmas.{Fails-on}
use Rattle.trf16_report.proofs.AnsweringLemmas.{players-more, players-fail, players-end}
use Rattle.trf16_reader.proofs.answering.players_fit.Goals as goal

pub loop-player-preserved : goal.loop-player-preserved
loop-player-preserved c =
    let sheet = c.args.report.now in
    let entry = entry_of c.in-Some.player.now in
    sym (players-more sheet (map entry_of c.loop-player.player-iterator) entry (map entry_of c.next.new.self) (ap (map entry_of) c.in-Some.ensures.steps) c.in_ok-player_fits.ensures)
    ∙ c.loop-player.invariant

pub returns-in_err-player_fits : goal.returns-in_err-player_fits
returns-in_err-player_fits c =
    let p = err_from_is_err_and c.from_residual.result c.from_residual.ensures.1 in
    let sheet = c.args.report.now in
    let entry = entry_of c.in-Some.player.now in
    rw (p.1, p.2) (Fails-on c.in_err-player_fits.field-0.0 (player_fits sheet entry) (players_fit sheet sheet.players)
    (λ fault e. sym c.loop-player.invariant
    ∙ players-fail sheet (map entry_of c.loop-player.player-iterator) entry (map entry_of c.next.new.self) fault (ap (map entry_of) c.in-Some.ensures.steps) e)
    c.in_err-player_fits.ensures)

pub returns : goal.returns
returns c = sym c.loop-player.invariant ∙ players-end c.args.report.now (map entry_of c.loop-player.player-iterator) (ap (map entry_of) c.in-None.ensures.steps.0)
