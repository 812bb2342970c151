-- What is not told is too heavy.
use Rattle.dutch_weighing.proofs.weighing.weigh_down.Goals as goal

pub returns-else-put_down : goal.returns-else-put_down
returns-else-put_down c = c.put_down.ensures.heavy c.if-put_down.false
