use Rattle.dutch_sequence.proofs.Comparing.{keys_tied, limbo_tied, lists_tied}
use Rattle.dutch_sequence.proofs.StageSets.{exchange_key-apart}
use Rattle.pairing_laws.proofs.arrangements.different_choices_are_not_level.Goals as goal

pub returns-clause-tuples : goal.returns-clause-tuples
returns-clause-tuples c = lists_tied

pub returns-clause-exchanges : goal.returns-clause-exchanges
returns-clause-exchanges c =
    λ pool k a b rises enough m n level. exchange_key-apart pool k rises enough a b m n (keys_tied pool k a b level)

pub returns-clause-limbo_exchanges : goal.returns-clause-limbo_exchanges
returns-clause-limbo_exchanges c = limbo_tied
