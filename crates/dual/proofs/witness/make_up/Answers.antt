-- Lists of another length are not the same.
use Rattle.dual.proofs.Witnesses.{as_many}
use Rattle.dual.proofs.witness.make_up.Goals as goal

pub returns-else-are_as_many : goal.returns-else-are_as_many
returns-else-are_as_many c = (
  λ e. absurd (cc (e, c.if-are_as_many.false)),
  λ whole. c.are_as_many.ensures.1 (as_many c.args.players.now c.args.pairs.now c.args.left.now whole),
)
