-- The first line so far, and that of the kinds to come, are together that of all kinds.
use Rattle.std.proofs.Common.{◌≡◌, drop}
use Rattle.trf16_report.specs.Prelude.{first_of, earlier}
use Rattle.trf16_report.proofs.report.Report.unsupported.Given as goal

abbrev pub invariant-loop-kind : goal.invariant-loop-kind
invariant-loop-kind l = earlier l.first (first_of (drop l.kind-index l.kinds) l.self) ≡ first_of l.kinds l.self
