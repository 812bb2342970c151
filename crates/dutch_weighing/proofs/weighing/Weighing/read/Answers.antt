-- What one table cannot hold is too heavy.
use Rattle.dutch_weighing.proofs.WeighingLemmas.{at_none}
use Rattle.dutch_weighing.proofs.weighing.Weighing.read.Goals as goal

pub returns-in_default : goal.returns-in_default
returns-in_default c = at_none c.in_ok-pairs.field-0 _ _ c.in_default.is c.in_ok-pairs.ensures

pub returns-in_default-2 : goal.returns-in_default-2
returns-in_default-2 c = at_none c.in_ok-down.field-0 _ _ c.in_default-2.is c.in_ok-down.ensures

pub returns-in_default-3 : goal.returns-in_default-3
returns-in_default-3 c = at_none c.in_ok-next.field-0 _ _ c.in_default-3.is c.in_ok-next.ensures
