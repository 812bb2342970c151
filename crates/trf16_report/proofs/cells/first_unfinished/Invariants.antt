use Rattle.std.proofs.Common.{◌≡◌, ◌+◌, drop}
use Rattle.trf16_report.specs.Prelude.{first_unfinished}
use Rattle.trf16_report.proofs.cells.first_unfinished.Given as goal

abbrev pub invariant-loop-i : goal.invariant-loop-i
invariant-loop-i l = first_unfinished (l.i + 1) (drop l.i l.cells) ≡ first_unfinished 1 l.cells
