use Rattle.std.proofs.Common.{◌≡◌, ◌++◌, drop}
use Rattle.replies.specs.Prelude.{values_text}
use Rattle.replies.proofs.standings.put_values.Given as goal

abbrev pub invariant-loop-i : goal.invariant-loop-i
invariant-loop-i l =
    l.text ++ values_text (drop l.i l.keys) (drop l.i l.values) ≡ l.initial.text ++ values_text l.keys l.values
