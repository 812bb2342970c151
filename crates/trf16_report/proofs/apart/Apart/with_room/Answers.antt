use Rattle.std.proofs.Common.{◌+◌, ◌*◌}
use Rattle.trf16_report.proofs.MarkLemmas.{none_marked}
use Rattle.trf16_report.proofs.apart.Apart.with_room.Goals as goal

pub returns-clause-none : goal.returns-clause-none
returns-clause-none c = λ i j. none_marked c.in_ok-from_elem.field-0.items (c.args.count * i + j) c.in_ok-from_elem.ensures.items
