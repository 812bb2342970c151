use Rattle.std.proofs.Common.{◌≡◌, length}
use Rattle.trf16_report.specs.Prelude.{lines, names_both}
use Rattle.trf16_report.proofs.AnsweringLemmas.{some_of}
use Rattle.trf16_report.proofs.report.Report.are_named_together.Given as goal

abbrev pub invariant-loop-rest : goal.invariant-loop-rest
invariant-loop-rest l =
    some_of (names_both l.a l.b) l.self-inside.utf8 (lines l.rest) ≡ some_of (names_both l.a l.b) l.self-inside.utf8 (lines l.self-inside.text.now)

abbrev pub decreases-loop-rest : goal.decreases-loop-rest
decreases-loop-rest l = length l.rest
