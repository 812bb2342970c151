use Rattle.std.proofs.Common.{◌≡◌, ◌+◌, ◌++◌, drop}
use Rattle.replies.specs.Prelude.{rows_text}
use Rattle.replies.proofs.standings.put_rows.Given as goal

abbrev pub invariant-loop-i : goal.invariant-loop-i
invariant-loop-i l =
    l.text ++ rows_text l.report l.keys l.rounds (l.i + 1) (drop l.i l.rows) ≡ l.initial.text ++ rows_text l.report l.keys l.rounds 1 l.rows
