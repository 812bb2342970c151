use Rattle.std.proofs.Common.{◌≡◌, ◌+◌, ◌++◌, drop}
use Rattle.replies.specs.Prelude.{boards_labels}
use Rattle.replies.proofs.wall.board_lines.Given as goal

abbrev pub invariant-loop-i : goal.invariant-loop-i
invariant-loop-i l = l.lines.items ++ boards_labels l.report (l.i + 1) (drop l.i l.boards) ≡ boards_labels l.report 1 l.boards
