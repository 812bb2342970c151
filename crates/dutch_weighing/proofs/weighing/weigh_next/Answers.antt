-- What is not told is too heavy.
use Rattle.dutch_weighing.proofs.weighing.weigh_next.Goals as goal

pub returns-else-put_all : goal.returns-else-put_all
returns-else-put_all c = c.put_all.ensures.heavy c.if-put_all.false
