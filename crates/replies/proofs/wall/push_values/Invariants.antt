use Rattle.std.proofs.Common.{◌≡◌, ◌++◌, drop}
use Rattle.replies.specs.Prelude.{values_labels}
use Rattle.replies.proofs.wall.push_values.Given as goal

abbrev pub invariant-loop-i : goal.invariant-loop-i
invariant-loop-i l = l.line ++ values_labels (drop l.i l.keys) (drop l.i l.values) ≡ l.initial.line ++ values_labels l.keys l.values
