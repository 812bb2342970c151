-- What is not told is too heavy.
use Rattle.dutch_weighing.proofs.weighing.weigh_pairs.Goals as goal

pub returns-else-branch : goal.returns-else-branch
returns-else-branch c = c.in_ok-put_pairs.ensures.heavy c.if-branch.false
