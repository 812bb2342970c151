use Rattle.std.proofs.Common.{◌≡◌, drop}
use Rattle.trf16_report.specs.Prelude.{blanks_at}
use Rattle.trf16_reader.proofs.reading.blanks_at.Given as goal

abbrev pub invariant-loop-column : goal.invariant-loop-column
invariant-loop-column l = blanks_at l.n l.line (drop l.column-index l.columns) ≡ blanks_at l.n l.line l.columns
