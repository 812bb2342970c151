use Rattle.std.proofs.Common.{◌≡◌, drop}
use Rattle.trf16_report.specs.Prelude.{cell_by}
use Rattle.trf16_writer.proofs.round.cell_by.Given as goal

abbrev pub invariant-loop-board : goal.invariant-loop-board
invariant-loop-board l = cell_by (drop l.board-index l.boards) l.start ≡ cell_by l.boards l.start
