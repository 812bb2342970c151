use Rattle.std.proofs.Common.{◌≡◌, ◌+◌, ◌++◌, drop}
use Rattle.replies.specs.Prelude.{rounds_shown, rows_labels}
use Rattle.replies.proofs.wall.row_lines.Given as goal

abbrev pub invariant-loop-i : goal.invariant-loop-i
invariant-loop-i l =
    l.lines.items ++ rows_labels l.report l.options.keys (rounds_shown l.options l.report) (l.i + 1) (drop l.i l.rows)
    ≡ rows_labels l.report l.options.keys (rounds_shown l.options l.report) 1 l.rows
