-- The law is the lemmas on the first that none is better than.
use Rattle.pairing_laws.proofs.BestGranting.{best_grants}
use Rattle.pairing_laws.proofs.wishes.the_best_that_grants_is_the_first_of_the_best.Goals as goal

pub returns-clause-grants : goal.returns-clause-grants
returns-clause-grants c = best_grants
