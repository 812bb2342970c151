use Rattle.std.proofs.Common.{◌≡◌, ◌++◌}
use Rattle.trf16_report.specs.Prelude.{blanks}
use Rattle.replies.proofs.table.put_blanks.Given as goal

abbrev pub invariant-loop : goal.invariant-loop
invariant-loop l = l.text ≡ l.initial.text ++ blanks l.counter
