use Rattle.trf16_writer.proofs.StartRanks.{own_starts}
use Rattle.trf16_writer.proofs.NewStartRanks.{new_onto}
use Rattle.report_laws.proofs.renumbered.new_start_ranks_are_all_numbers.Goals as goal

pub returns : goal.returns
returns c bytes bye sheet n e some within = new_onto sheet n (own_starts bytes bye sheet e).different some within
