use Rattle.std.proofs.Common.{refl, arith}
use Rattle.trf16_report.specs.declared.cell.Cell.TheVariants.{Blank}
use Rattle.trf16_report.specs.Prelude.{is_blank_cell}
use Rattle.trf16_report.proofs.FieldLemmas.{without_last-more}
use Rattle.trf16_report.proofs.cells.said_len.Goals as goal
use Rattle.trf16_report.proofs.cells.said_len.Goals.{then-not-is_blank_cell, else-not-is_blank_cell}

pub loop-i-preserved : goal.loop-i-preserved
loop-i-preserved c =
    let more = without_last-more is_blank_cell c.args.cells.now c.loop-i.i Blank (omega arith) in
    let test = c.is_blank_cell.ensures in
    elim c.if-not-is_blank_cell.branch [
      | then-not-is_blank_cell w ↦ (rw (more, ← test, w.if-not-is_blank_cell.true, w.len-is) refl, omega arith)
      | else-not-is_blank_cell w ↦ (rw (more, ← test, w.if-not-is_blank_cell.false, w.len-is) c.loop-i.invariant.0, omega arith)
    ]
