-- The law is the lemma.
use Rattle.dutch_weighing.proofs.C07NextMatchings.{next_in_order}
use Rattle.pairing_laws.proofs.weights.the_next_value_is_small.Goals as goal

pub returns : goal.returns
returns c = λ context. next_in_order context.facts context.reached context.lower
