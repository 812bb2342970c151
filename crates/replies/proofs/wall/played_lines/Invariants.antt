use Rattle.std.proofs.Common.{◌≡◌, ◌+◌, ◌++◌, drop}
use Rattle.replies.specs.Prelude.{played_labels}
use Rattle.replies.proofs.wall.played_lines.Given as goal

abbrev pub invariant-loop-i : goal.invariant-loop-i
invariant-loop-i l = l.lines.items ++ played_labels l.report l.round (l.i + 1) (drop l.i l.boards) ≡ played_labels l.report l.round 1 l.boards
