use Rattle.std.proofs.Common.{◌≡◌, ◌+◌, drop}
use Rattle.trf16_report.specs.Prelude.{cells_fit}
use Rattle.trf16_reader.proofs.answering.cells_fit.Given as goal

abbrev pub invariant-loop-i : goal.invariant-loop-i
invariant-loop-i l = cells_fit l.report l.player (l.i + 1) (drop l.i l.cells) ≡ cells_fit l.report l.player 1 l.cells
