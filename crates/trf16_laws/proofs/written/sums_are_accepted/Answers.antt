use Rattle.trf16_laws.proofs.SummedReport.{summed_again}
use Rattle.trf16_laws.proofs.written.sums_are_accepted.Goals as goal

pub returns : goal.returns
returns c = summed_again
