use Rattle.std.proofs.Common.{map}
use Rattle.trf16_report.specs.Prelude.{entry_of}
use Rattle.trf16_writer.proofs.PlayersAlone.{ArePut}
use Rattle.trf16_writer.proofs.alone.players_alone.Given as goal

abbrev pub invariant-loop-player : goal.invariant-loop-player
invariant-loop-player l = ArePut l.report l.draft (map entry_of l.player-iterator)
