use Rattle.trf16_laws.proofs.WrittenNumbers.{points}
use Rattle.trf16_laws.proofs.written.law_points.Goals as goal

pub returns : goal.returns
returns c = points
