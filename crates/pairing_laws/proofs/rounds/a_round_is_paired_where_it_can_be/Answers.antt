use Rattle.dutch_rounds.proofs.NoDeadEnd.{paired_exactly}
use Rattle.pairing_laws.proofs.rounds.a_round_is_paired_where_it_can_be.Goals as goal

pub returns-clause-paired : goal.returns-clause-paired
returns-clause-paired c = paired_exactly
