use Rattle.std.proofs.Common.{sym, ◌∙◌}
use Rattle.trf16_report.proofs.ReadingLemmas.{exits, blanks_fail}
use Rattle.trf16_reader.proofs.reading.blanks_at.Goals as goal

pub returns-in_err-blank_at : goal.returns-in_err-blank_at
returns-in_err-blank_at c =
    exits (λ x. x) _ _ _ _ c.from_residual.ensures.1 c.in_err-blank_at.ensures
    (λ fault e. sym c.loop-column.invariant ∙ blanks_fail c.args.n c.args.line.now c.args.columns.now c.loop-column.column-index 0 fault c.loop-column-test.true e)
