use Rattle.std.proofs.Common.{◌≡◌, max, drop}
use Rattle.replies.specs.Prelude.{widest}
use Rattle.replies.proofs.table.widest.Given as goal

abbrev pub invariant-loop-line : goal.invariant-loop-line
invariant-loop-line l = max l.most (widest l.utf8 l.column (drop l.line-index l.lines)) ≡ widest l.utf8 l.column l.lines
