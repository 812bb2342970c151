use Rattle.std.proofs.Common.{map}
use Rattle.trf16_report.specs.Prelude.{entry_of, rounds_played}
use Rattle.trf16_writer.proofs.RoundLemmas.{AreTurned}
use Rattle.entries.specs.Steps.{player_changed}
use Rattle.entries.proofs.entering.players_changed.Given as goal

abbrev pub invariant-loop-player : goal.invariant-loop-player
invariant-loop-player l = AreTurned (player_changed l.change l.report.bye (rounds_played l.report)) l.players.entries (map entry_of l.player-iterator) l.report.players
