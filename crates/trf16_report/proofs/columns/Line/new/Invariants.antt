use Rattle.std.proofs.Common.{◌+◌, ◌-◌, length}
use Rattle.trf16_report.specs.Prelude.{IsStart}
use Rattle.trf16_report.specs.declared.limits.TheConstants.{LAST_COLUMN}
use Rattle.trf16_report.proofs.ColumnLemmas.{AreStarts}
use Rattle.trf16_report.proofs.columns.Line.new.Given as goal

abbrev pub invariant-loop-next : goal.invariant-loop-next
invariant-loop-next l = AreStarts l.utf8 l.bytes l.starts.items × IsStart l.utf8 l.bytes (length l.starts.items) l.next

abbrev pub decreases-loop-next : goal.decreases-loop-next
decreases-loop-next l = LAST_COLUMN + 1 - length l.starts.items
