use Rattle.std.proofs.Common.{◌≡◌, ◌+◌, ◌-◌, ◌≤◌, length}
use Rattle.trf16_report.specs.Prelude.{with_cell}
use Rattle.trf16_report.specs.declared.limits.TheConstants.{MOST_ROUNDS}
use Rattle.entries.proofs.entering.set_cell.Given as goal

abbrev pub invariant-loop-cells : goal.invariant-loop-cells
invariant-loop-cells l = record {
  same : with_cell (l.round - 1) l.cell l.cells.items ≡ with_cell (l.round - 1) l.cell l.initial.cells.items;
  few : length l.cells.items ≤ MOST_ROUNDS;
}

abbrev pub decreases-loop-cells : goal.decreases-loop-cells
decreases-loop-cells l = l.place + 1 - length l.cells.items
