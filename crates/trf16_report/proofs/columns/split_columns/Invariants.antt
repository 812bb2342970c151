use Rattle.trf16_report.specs.Prelude.{IsStart}
use Rattle.trf16_report.proofs.columns.split_columns.Given as goal

abbrev pub invariant-loop : goal.invariant-loop
invariant-loop l = IsStart l.utf8 l.bytes l.counter l.len
