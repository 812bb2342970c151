use Rattle.std.proofs.lemmas.Cmp.{nat_list_cmp_total}
use Rattle.dutch_sequence.proofs.Comparing.{exchange_cmp_total, limbo_cmp_total}
use Rattle.pairing_laws.proofs.arrangements.orders_are_total.Goals as goal

pub returns-clause-tuples : goal.returns-clause-tuples
returns-clause-tuples c = nat_list_cmp_total

pub returns-clause-exchanges : goal.returns-clause-exchanges
returns-clause-exchanges c = exchange_cmp_total

pub returns-clause-limbo_exchanges : goal.returns-clause-limbo_exchanges
returns-clause-limbo_exchanges c = limbo_cmp_total
