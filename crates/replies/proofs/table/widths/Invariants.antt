use Rattle.std.proofs.Common.{◌≡◌}
use Rattle.replies.specs.Prelude.{widths}
use Rattle.replies.proofs.table.widths.Given as goal

abbrev pub invariant-loop-column : goal.invariant-loop-column
invariant-loop-column l = l.all.items ≡ widths l.utf8 l.column l.lines
