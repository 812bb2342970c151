use Rattle.std.proofs.Common.{◌≡◌, ◌≤◌, take}
use Rattle.trf16_report.specs.Prelude.{without_last, is_blank_cell}
use Rattle.trf16_report.proofs.cells.said_len.Given as goal

abbrev pub invariant-loop-i : goal.invariant-loop-i
invariant-loop-i l = (without_last is_blank_cell (take l.i l.cells) ≡ take l.len l.cells) × (l.len ≤ l.i)
