use Rattle.std.proofs.Common.{◌≡◌, length}
use Rattle.trf16_report.specs.Prelude.{trimmed}
use Rattle.trf16_report.proofs.fields.trimmed.Given as goal

abbrev pub invariant-loop-last : goal.invariant-loop-last
invariant-loop-last l = trimmed l.rest ≡ trimmed l.bytes

abbrev pub decreases-loop-last : goal.decreases-loop-last
decreases-loop-last l = length l.rest
