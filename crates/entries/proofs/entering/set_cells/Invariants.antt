use Rattle.std.proofs.Common.{◌≡◌, ◌≤◌, length, drop}
use Rattle.trf16_report.specs.declared.limits.TheConstants.{MOST_ROUNDS}
use Rattle.entries.specs.Entered.{cells_with_new}
use Rattle.entries.specs.Steps.{AreWithin}
use Rattle.entries.proofs.entering.set_cells.Given as goal

abbrev pub invariant-loop-new : goal.invariant-loop-new
invariant-loop-new l = record {
  same : cells_with_new (drop l.new-index l.all) l.player l.cells.items ≡ cells_with_new l.all l.player l.initial.cells.items;
  few : length l.cells.items ≤ MOST_ROUNDS;
  within : AreWithin (drop l.new-index l.all);
}
