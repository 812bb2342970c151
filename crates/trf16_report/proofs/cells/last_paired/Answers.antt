use Rattle.std.proofs.Common.{refl, arith}
use Rattle.trf16_report.specs.declared.cell.Cell.TheVariants.{Blank}
use Rattle.trf16_report.proofs.ReportLemmas.{last_paired-more}
use Rattle.trf16_report.proofs.cells.last_paired.Goals as goal
use Rattle.trf16_report.proofs.cells.last_paired.Goals.{then-is_paired, else-is_paired}

pub loop-i-preserved : goal.loop-i-preserved
loop-i-preserved c =
    let more = last_paired-more c.args.cells.now c.loop-i.i Blank (omega arith) in
    let test = c.is_paired.ensures in
    elim c.if-is_paired.branch [
      | then-is_paired w ↦ (rw (more, ← test, w.if-is_paired.true, w.last-is) refl, omega arith)
      | else-is_paired w ↦ (rw (more, ← test, w.if-is_paired.false, w.last-is) c.loop-i.invariant.0, omega arith)
    ]
