use Rattle.trf16_writer.proofs.StartOrder.{goes_rated}
use Rattle.trf16_writer.proofs.NewStartRanks.{new_lt}
use Rattle.report_laws.proofs.renumbered.new_start_ranks_are_in_order.Goals as goal

pub returns : goal.returns
returns c = record {
  order = new_lt;
  rated = λ sheet a b x y is is' lt. new_lt sheet a b x y is is' (goes_rated sheet.utf8 x y lt);
}
