use Rattle.std.proofs.Common.{◌≡◌, [], drop}
use Rattle.entries.specs.Entered.{with_entries}
use Rattle.entries.specs.Steps.{AreWithin}
use Rattle.entries.proofs.all_entries.cells_of_all.Given as goal

abbrev pub invariant-loop-entry : goal.invariant-loop-entry
invariant-loop-entry l = record {
  same : with_entries l.options l.report l.so_far.items (drop l.entry-index l.entries) ≡ with_entries l.options l.report [] l.entries;
  within : AreWithin l.so_far.items;
}
