use Rattle.std.proofs.Common.{map, ap}
use Rattle.trf16_report.specs.Prelude.{entry_of, rounds_played}
use Rattle.trf16_writer.proofs.RoundLemmas.{turned-end, turned-insert}
use Rattle.entries.specs.Steps.{player_changed}
use Rattle.entries.proofs.EntryLemmas.{keeps-start}
use Rattle.entries.proofs.entering.players_changed.Goals as goal

pub loop-player-preserved-in_ok-insert : goal.loop-player-preserved-in_ok-insert
loop-player-preserved-in_ok-insert c =
    let sheet = c.args.report.now in
    turned-insert (player_changed c.args.change sheet.bye (rounds_played sheet)) (keeps-start c.args.change sheet.bye (rounds_played sheet)) c.loop-player.players
    (entry_of c.in-Some.player.now) (map entry_of c.loop-player.player-iterator) (map entry_of c.next.new.self) sheet.players c.in_ok-made.made c.insert.new.self.entries
    (ap (map entry_of) c.in-Some.ensures.steps) c.loop-player.invariant c.in_ok-made.ensures c.in_ok-insert.ensures.entries
    c.count.ensures.own

pub loop-player-preserved : goal.loop-player-preserved
loop-player-preserved c =
    let sheet = c.args.report.now in
    turned-insert (player_changed c.args.change sheet.bye (rounds_played sheet)) (keeps-start c.args.change sheet.bye (rounds_played sheet)) c.loop-player.players
    (entry_of c.in-Some.player.now) (map entry_of c.loop-player.player-iterator) (map entry_of c.next.new.self) sheet.players c.in_ok-made.made c.insert.new.self.entries
    (ap (map entry_of) c.in-Some.ensures.steps) c.loop-player.invariant c.in_ok-made.ensures c.in_ok-insert.ensures.entries
    c.count.ensures.own

pub returns-clause-changed : goal.returns-clause-changed
returns-clause-changed c =
    turned-end (player_changed c.args.change c.args.report.now.bye (rounds_played c.args.report.now)) c.loop-player.players.entries (map entry_of c.loop-player.player-iterator)
    c.args.report.now.players (ap (map entry_of) c.in-None.ensures.steps.0) c.loop-player.invariant

pub returns-clause-keyed : goal.returns-clause-keyed
returns-clause-keyed c = c.loop-player.invariant.keyed
