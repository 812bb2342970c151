use Rattle.std.proofs.Common.{◌≡◌, ◌++◌}
use Rattle.trf16_report.specs.Prelude.{blanks}
use Rattle.ranks.proofs.placing.put_blanks.Given as goal

abbrev pub invariant-loop : goal.invariant-loop
invariant-loop l = l.text.items ≡ l.initial.text.items ++ blanks l.counter
