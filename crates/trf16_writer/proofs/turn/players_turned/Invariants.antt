use Rattle.std.proofs.Common.{map}
use Rattle.trf16_report.specs.Prelude.{entry_of, rounds_played}
use Rattle.trf16_writer.specs.Steps.{entry_turned}
use Rattle.trf16_writer.proofs.RoundLemmas.{AreTurned}
use Rattle.trf16_writer.proofs.turn.players_turned.Given as goal

abbrev pub invariant-loop-player : goal.invariant-loop-player
invariant-loop-player l = AreTurned (entry_turned l.turn l.report.bye (rounds_played l.report)) l.players.entries (map entry_of l.player-iterator) l.report.players
