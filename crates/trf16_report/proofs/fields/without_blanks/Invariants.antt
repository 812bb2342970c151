use Rattle.std.proofs.Common.{◌≡◌, drop}
use Rattle.trf16_report.specs.Prelude.{without_blanks}
use Rattle.trf16_report.proofs.fields.without_blanks.Given as goal

abbrev pub invariant-loop-i : goal.invariant-loop-i
invariant-loop-i l = without_blanks (drop l.i l.bytes) ≡ without_blanks l.bytes
