use Rattle.std.proofs.Common.{◌≡◌, drop}
use Rattle.entries.specs.NewCells.{cell_after}
use Rattle.entries.proofs.new_cells.cell_after.Given as goal

abbrev pub invariant-loop-new : goal.invariant-loop-new
invariant-loop-new l = cell_after (drop l.new-index l.so_far) l.slot l.after ≡ cell_after l.so_far l.slot l.fn.cell
