-- The law is the lemma.
use Rattle.answer_laws.proofs.ReasonLemmas.{none_can_be_chosen}
use Rattle.answer_laws.proofs.laws.where_c4_is_told_none_can_be_chosen.Goals as goal

pub returns : goal.returns
returns c = none_can_be_chosen
