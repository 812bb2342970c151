-- The law is the lemma on the test.
use Rattle.dutch_completion.proofs.Covering.{completable_by_test}
use Rattle.pairing_laws.proofs.brackets.completable_by_test.Goals as goal

pub returns : goal.returns
returns c = completable_by_test
