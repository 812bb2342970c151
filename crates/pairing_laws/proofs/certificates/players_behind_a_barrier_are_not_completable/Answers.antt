-- The lemma.
use Rattle.dual.proofs.Barriers.{not_completable}
use Rattle.pairing_laws.proofs.certificates.players_behind_a_barrier_are_not_completable.Goals as goal

pub returns : goal.returns
returns c = not_completable
