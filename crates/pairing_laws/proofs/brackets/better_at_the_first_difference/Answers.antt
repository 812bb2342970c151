use Rattle.dutch_bracket.proofs.ItemOrder.{differ_first}
use Rattle.pairing_laws.proofs.brackets.better_at_the_first_difference.Goals as goal

pub returns-clause-first : goal.returns-clause-first
returns-clause-first c = differ_first
