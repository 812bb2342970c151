use Rattle.std.proofs.Common.{◌≡◌, ◌≤◌, ◌*◌, take}
use Rattle.std.specs.Prelude.{sum_by}
use Rattle.trf16_report.specs.Prelude.{half_points}
use Rattle.trf16_report.proofs.cells.points_of.Given as goal

abbrev pub invariant-loop-cell : goal.invariant-loop-cell
invariant-loop-cell l = (l.sum ≡ sum_by (half_points l.bye) (take l.cell-index l.cells)) × (l.sum ≤ 2 * l.cell-index)
