use Rattle.std.proofs.Common.{◌∷◌, []}
use Rattle.trf16_laws.proofs.WrittenText.{lines-line}
use Rattle.report_laws.proofs.AloneLemmas.{alone_has_bytes}
use Rattle.report_laws.proofs.notes.line_alone_has_bytes.Goals as goal

pub returns-clause-columns : goal.returns-clause-columns
returns-clause-columns c = alone_has_bytes

pub returns-clause-lines : goal.returns-clause-lines
returns-clause-lines c line inside = lines-line line (0xFF ∷ []) inside
