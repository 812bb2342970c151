use Rattle.std.proofs.Common.{◌≡◌, ◌+◌, length}
use Rattle.trf16_report.specs.Prelude.{columns}
use Rattle.trf16_report.proofs.columns.column_count.Given as goal

abbrev pub invariant-loop-rest : goal.invariant-loop-rest
invariant-loop-rest l = (l.count + length (columns l.utf8 l.rest) ≡ length (columns l.utf8 l.bytes))

abbrev pub decreases-loop-rest : goal.decreases-loop-rest
decreases-loop-rest l = length (columns l.utf8 l.rest)
