use Rattle.std.proofs.Common.{◌≡◌, ◌+◌, ◌<◌, ◌^◌, length}
use Rattle.trf16_report.specs.Prelude.{first_at, names_unread, first_unread}
use Rattle.trf16_writer.proofs.unread.first_unread.Given as goal

abbrev pub invariant-loop-line : goal.invariant-loop-line
invariant-loop-line l = (first_at names_unread l.utf8 (l.n + 1) l.lines ≡ first_unread l.report) × (l.n + length l.lines < 2 ^ 63)

abbrev pub decreases-loop-line : goal.decreases-loop-line
decreases-loop-line l = length l.lines
