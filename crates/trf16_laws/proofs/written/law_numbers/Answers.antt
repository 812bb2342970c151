use Rattle.trf16_laws.proofs.WrittenNumbers.{numbers}
use Rattle.trf16_laws.proofs.written.law_numbers.Goals as goal

pub returns : goal.returns
returns c = numbers
