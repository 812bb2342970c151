use Rattle.trf16_writer.proofs.StartRanks.{own_starts}
use Rattle.trf16_laws.proofs.accepted.start_ranks_are_own.Goals as goal

pub returns : goal.returns
returns c = own_starts
