-- The law is the lemma.
use Rattle.answer_laws.proofs.ReasonLemmas.{none_with_as_many_moved_down}
use Rattle.answer_laws.proofs.laws.where_b1_is_told_fewer_moved_down_would_be_paired.Goals as goal

pub returns : goal.returns
returns c = none_with_as_many_moved_down
