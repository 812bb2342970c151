use Rattle.dutch_sequence.proofs.Gains.{sums_grow}
use Rattle.pairing_laws.proofs.arrangements.exchanges_lower_no_sum.Goals as goal

pub returns : goal.returns
returns c = sums_grow
