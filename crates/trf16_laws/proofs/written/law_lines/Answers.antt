use Rattle.trf16_laws.proofs.WrittenText.{lines-line}
use Rattle.trf16_laws.proofs.written.law_lines.Goals as goal

pub returns : goal.returns
returns c = lines-line
