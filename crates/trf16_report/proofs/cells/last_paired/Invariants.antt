use Rattle.std.proofs.Common.{◌≡◌, ◌≤◌, take}
use Rattle.trf16_report.specs.Prelude.{last_paired}
use Rattle.trf16_report.proofs.cells.last_paired.Given as goal

abbrev pub invariant-loop-i : goal.invariant-loop-i
invariant-loop-i l = (last_paired (take l.i l.cells) ≡ l.last) × (l.last ≤ l.i)
