use Rattle.trf16_writer.proofs.NewStartRanks.{new_within, new_once}
use Rattle.report_laws.proofs.renumbered.new_start_ranks_are_one_to_one.Goals as goal

pub returns : goal.returns
returns c = record { within = new_within; once = new_once }
