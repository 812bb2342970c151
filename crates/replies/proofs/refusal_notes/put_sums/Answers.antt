use Rattle.replies.specs.Prelude.{sums_text}
use Rattle.replies.proofs.refusal_notes.put_sums.Goals as goal

pub returns : goal.returns
unfolding sums_text
returns c = rw (c.from.ensures, c.from-2.ensures, c.from-3.ensures) at c.write.ensures
