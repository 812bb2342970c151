use Rattle.std.proofs.Common.{◌≡◌, drop}
use Rattle.trf16_report.specs.Prelude.{named_by}
use Rattle.trf16_writer.specs.Steps.{are_free}
use Rattle.trf16_writer.proofs.round.can_be_paired.Given as goal

abbrev pub invariant-loop-i : goal.invariant-loop-i
invariant-loop-i l = are_free l.report (named_by (drop l.i l.boards)) ≡ are_free l.report (named_by l.boards)
