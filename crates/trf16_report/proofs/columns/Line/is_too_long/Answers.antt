use Rattle.std.proofs.Common.{ap, not, arith}
use Rattle.trf16_report.specs.Prelude.{is_blank}
use Rattle.trf16_report.specs.declared.limits.TheConstants.{LAST_COLUMN}
use Rattle.trf16_report.proofs.ColumnLemmas.{joined-behind}
use Rattle.trf16_report.proofs.columns.Line.is_too_long.Goals as goal

pub returns : goal.returns
returns c =
    rw (c.is_blank.ensures, c.split_at.ensures.back, c.place_at-end.ensures, c.deref.ensures.value, ← c.self.view_is)
    (ap (λ bytes. not (is_blank bytes)) (joined-behind c.self.inside.utf8 c.self.inside.bytes.now LAST_COLUMN _ (c.self.invariant LAST_COLUMN (omega arith))))
