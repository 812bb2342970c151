-- The lemma.
use Rattle.dual.proofs.Witnesses.{completable}
use Rattle.pairing_laws.proofs.certificates.players_with_a_witness_are_completable.Goals as goal

pub returns : goal.returns
returns c = completable
