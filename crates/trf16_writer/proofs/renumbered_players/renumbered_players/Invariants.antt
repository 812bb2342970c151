use Rattle.std.proofs.Common.{◌≡◌, ◌++◌, map}
use Rattle.trf16_report.specs.Prelude.{entry_of, renumbered_entry}
use Rattle.trf16_writer.specs.StartTable.{new_in}
use Rattle.trf16_writer.proofs.renumbered_players.renumbered_players.Given as goal

abbrev pub invariant-loop-player : goal.invariant-loop-player
invariant-loop-player l =
    map entry_of l.players.items ++ map (renumbered_entry (new_in l.new)) (map entry_of l.player-iterator) ≡ map (renumbered_entry (new_in l.new)) l.report.players
