use Rattle.std.proofs.Common.{◌≡◌, map}
use Rattle.trf16_report.specs.Prelude.{entry_of, all_cells_fit}
use Rattle.trf16_reader.proofs.answering.all_cells_fit.Given as goal

abbrev pub invariant-loop-player : goal.invariant-loop-player
invariant-loop-player l = all_cells_fit l.report (map entry_of l.player-iterator) ≡ all_cells_fit l.report l.report.players
