-- The law is the lemma.
use Rattle.answer_laws.proofs.ReasonLemmas.{none_with_as_many_pairs}
use Rattle.answer_laws.proofs.laws.where_c5_is_told_none_has_as_many_pairs.Goals as goal

pub returns : goal.returns
returns c = none_with_as_many_pairs
