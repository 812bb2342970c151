use Rattle.std.proofs.Common.{◌≡◌, ◌^◌, ◌+◌, ◌≤◌, drop}
use Rattle.trf16_report.specs.Prelude.{points_after}
use Rattle.trf16_report.proofs.fields.points_after.Given as goal

abbrev pub invariant-loop-i : goal.invariant-loop-i
invariant-loop-i l = (points_after l.whole (drop l.i l.word) ≡ points_after 0 l.word) × (l.whole + 1 ≤ 10 ^ l.i)
