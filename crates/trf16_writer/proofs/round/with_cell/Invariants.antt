use Rattle.std.proofs.Common.{◌≡◌, ◌+◌, ◌-◌, ◌≤◌, length}
use Rattle.trf16_report.specs.Prelude.{with_cell}
use Rattle.trf16_writer.proofs.round.with_cell.Given as goal
use Rattle.trf16_report.specs.declared.limits.TheConstants.{MOST_ROUNDS}

abbrev pub invariant-loop-set : goal.invariant-loop-set
invariant-loop-set l = (with_cell l.before l.cell l.set.items ≡ with_cell l.before l.cell l.cells) × (length l.set.items ≤ MOST_ROUNDS)

abbrev pub decreases-loop-set : goal.decreases-loop-set
decreases-loop-set l = l.place + 1 - length l.set.items
