use Rattle.trf16_report.proofs.MarkLemmas.{none_marked}
use Rattle.trf16_report.proofs.start_ranks.StartRanks.new.Goals as goal

pub returns : goal.returns
returns c = λ start. none_marked c.in_ok-from_elem.field-0.items start c.in_ok-from_elem.ensures.items
