use Rattle.std.proofs.Common.{◌≡◌, ◌++◌, drop}
use Rattle.replies.specs.Prelude.{labels_text}
use Rattle.replies.proofs.table.put_line.Given as goal

abbrev pub invariant-loop-i : goal.invariant-loop-i
invariant-loop-i l = l.text ++ labels_text l.utf8 l.widths l.i (drop l.i l.labels) ≡ l.initial.text ++ labels_text l.utf8 l.widths 0 l.labels
