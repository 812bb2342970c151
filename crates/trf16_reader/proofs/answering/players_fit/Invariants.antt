use Rattle.std.proofs.Common.{◌≡◌, map}
use Rattle.trf16_report.specs.Prelude.{entry_of, players_fit}
use Rattle.trf16_reader.proofs.answering.players_fit.Given as goal

abbrev pub invariant-loop-player : goal.invariant-loop-player
invariant-loop-player l = players_fit l.report (map entry_of l.player-iterator) ≡ players_fit l.report l.report.players
